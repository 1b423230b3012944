-- The test `same` of two lists of words passes exactly where they are one list.
use mathlib.Core.Path.{◌≡◌, refl, ap₂}
use mathlib.Core.List.{List, [], ◌∷◌}
use Prim.Native.Nat.{ℕ}
use lib.Dec.{T, eqb, eqb→eq, eqb_refl}
use Rattle.lists.specs.Lists.{same}
use Rattle.lists.proofs.Tests.{of_and, to_and}

pub same_eq : (l k : List ℕ) → T (same l k) → l ≡ k
unfolding same
same_eq [] [] t = refl
same_eq [] (y ∷ k) t = absurd t
same_eq (x ∷ l) [] t = absurd t
same_eq (x ∷ l) (y ∷ k) t = let w = of_and (eqb x y) (same l k) t in ap₂ ◌∷◌ (eqb→eq x y w.0) (same_eq l k w.1)

pub same_refl : (l : List ℕ) → T (same l l)
unfolding same
same_refl [] = tt
same_refl (x ∷ l) = to_and (eqb x x) (same l l) (eqb_refl x) (same_refl l)
