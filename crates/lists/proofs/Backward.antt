-- Lists passed from the last element to the first: one element more of what is behind, one less of what is ahead.
use mathlib.Core.Path.{◌≡◌, ap, ◌∙◌}
use mathlib.Core.List.Memᴰ.{tail as there}
use mathlib.Core.List.{List, [], ◌∷◌, ◌++◌, Memᴰ as Mem}
use Prim.Native.Nat.{ℕ, zero, suc, ◌-◌, ◌≤◌, ◌<◌}
use native.Mathlib.Omega.{arith}
use lib.ListN.{length, get_or, take, drop}
use lib.Seq.{drop-cons, take-suc}

module _ {A : Type 0} (d : A) (l : List A) (j : ℕ) (h : 0 < j) (g : j ≤ length l) where
  pub drop_last : drop (j - 1) l ≡ get_or l (j - 1) d ∷ drop j l
  drop_last = let e : suc (j - 1) ≡ j = omega arith in drop-cons l (j - 1) d (omega arith) ∙ ap (λ (k : ℕ). get_or l (j - 1) d ∷ drop k l) e

  pub take_last : take j l ≡ take (j - 1) l ++ (get_or l (j - 1) d ∷ [])
  take_last = let e : j ≡ suc (j - 1) = omega arith in ap (λ (k : ℕ). take k l) e ∙ take-suc l (j - 1) d (omega arith)

-- what is dropped to is there
pub mem_drop : {A : Type 0} (l : List A) (i : ℕ) (z : A) → Mem z (drop i l) → Mem z l
mem_drop l zero z m = m
mem_drop [] (suc i) z m = m
mem_drop (x ∷ l) (suc i) z m = there (mem_drop l i z m)
