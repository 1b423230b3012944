-- A sum of values that are each at most b.
use mathlib.Core.Path.{refl}
use mathlib.Core.List.Memᴰ.{head as here}
use mathlib.Core.List.Memᴰ.{tail as there}
use mathlib.Core.List.{List, [], ◌∷◌, Memᴰ as Mem}
use Prim.Native.Nat.{ℕ, ◌*◌, ◌≤◌}
use native.Mathlib.Omega.{arith}
use lib.ListN.{length}
use Rattle.lists.specs.Lists.{sum_over}

pub sum_most : {A : Type 0} (f : A → ℕ) (b : ℕ) (l : List A) → ((x : A) → Mem x l → f x ≤ b) → sum_over f l ≤ length l * b
unfolding sum_over
sum_most f b [] h = omega arith
sum_most f b (x ∷ l) h = omega (arith, h x (here refl), sum_most f b l (λ y m. h y (there m)))
