-- A list in strict order whose members are all in another such list: it is no longer, and it is the other where it is as long.
use mathlib.Core.Path.{◌≡◌, refl, sym, ap₂, subst, ◌∙◌}
use mathlib.Core.Bool.{Bool}
use mathlib.Core.List.Memᴰ.{head as here}
use mathlib.Core.List.Memᴰ.{not-nil}
use mathlib.Core.List.Memᴰ.{tail as there}
use mathlib.Core.List.{List, ◌∷◌, Memᴰ as Mem}
use Prim.Native.Nat.{◌≤◌}
use native.Mathlib.Omega.{arith}
use lib.Dec.{T}
use lib.ListN.{length}
use Rattle.lists.proofs.Members.{In, none, more}
use Rattle.lists.proofs.Sorting.{Sorted, StrictOrder}

module _ {A : Type 0} {lt : A → A → Bool} (o : StrictOrder lt) where
  loops : (x : A) → T (lt x x) → ⊥
  loops x t = o.asym x x t t

  -- the same head: the tail's members are the other tail's
  same_head : {x y : A} {l k : List A} → x ≡ y → ((z : A) → Mem z l → T (lt x z)) → In (x ∷ l) (y ∷ k) → In l k
  same_head {x} e a h z m = elim (h z (there m)) [
    | here q ↦ absurd (loops x (subst (λ (u : A). T (lt x u)) (q ∙ sym e) (a z m)))
    | there n ↦ n
  ]

  -- a head that stands further on: all stand further on
  later_head : {x y : A} {l k : List A} → Mem x k → ((z : A) → Mem z l → T (lt x z)) → ((z : A) → Mem z k → T (lt y z)) → In (x ∷ l) (y ∷ k)
      → In (x ∷ l) k
  later_head {x} {y} n a b h z m = elim (h z m) [
    | here q ↦ elim m [
      | here e ↦ absurd (loops y (subst (λ (u : A). T (lt y u)) (sym e ∙ q) (b x n)))
      | there i ↦ absurd (o.asym x y (subst (λ (u : A). T (lt x u)) q (a z i)) (b x n))
    ]
    | there i ↦ i
  ]

  pub no_longer : {l k : List A} → Sorted lt l → Sorted lt k → In l k → length l ≤ length k
  no_longer none t h = omega arith
  no_longer (more {x = x} a s) none h = absurd (not-nil (h x (here refl)))
  no_longer (more {x = x} {l = l} a s) (more {x = y} {l = k} b t) h = elim (h x (here refl)) [
    | here e ↦ let i = no_longer s t (same_head e a h) in omega arith
    | there n ↦ let i = no_longer (more {x = x} {l = l} a s) t (later_head n a b h) in omega arith
  ]

  pub as_long : {l k : List A} → Sorted lt l → Sorted lt k → In l k → length k ≤ length l → l ≡ k
  as_long none none h g = refl
  as_long none (more b t) h g = absurd (omega arith)
  as_long (more {x = x} a s) none h g = absurd (not-nil (h x (here refl)))
  as_long (more {x = x} {l = l} a s) (more {x = y} {l = k} b t) h g = elim (h x (here refl)) [
    | here e ↦ ap₂ ◌∷◌ e (as_long s t (same_head e a h) (omega arith))
    | there n ↦ let i = no_longer (more {x = x} {l = l} a s) t (later_head n a b h) in absurd (omega arith)
  ]
