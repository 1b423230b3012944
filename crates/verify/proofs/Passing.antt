-- The tests over lists and numbers, as facts.
use mathlib.Core.Path.{◌≡◌, refl, subst}
use mathlib.Core.Logic.{inl, inr}
use mathlib.Core.Bool.{Bool, true, false, ◌&&◌}
use mathlib.Core.List.Memᴰ.{head as here}
use mathlib.Core.List.Memᴰ.{not-nil}
use mathlib.Core.List.Memᴰ.{tail as there}
use mathlib.Core.List.{List, [], ◌∷◌, Memᴰ as Mem}
use Prim.Native.Nat.{ℕ, zero, suc, ◌<◌}
use native.Mathlib.Omega.{arith}
use native.Mathlib.Decide.{dec_lt}
use lib.Dec.{T}
use Rattle.lists.proofs.Tests.{of_and, to_and, of_or, or_left, or_right}
use Rattle.lists.proofs.Members.{none, more}
use Rattle.lists.proofs.Sorting.{Sorted, StrictOrder}
use Rattle.verify.specs.Passing.{below, each, some, after, in_row}

-- two tests that pass together are one test
pub bool_ext : (a b : Bool) → (T a → T b) → (T b → T a) → a ≡ b
bool_ext true true f g = refl
bool_ext true false f g = absurd (f tt)
bool_ext false true f g = absurd (g tt)
bool_ext false false f g = refl

pub of_below : (f : ℕ → Bool) (n : ℕ) → T (below f n) → (k : ℕ) → k < n → T (f k)
unfolding below
of_below f zero t k h = absurd (omega arith)
of_below f (suc n) t k h = let w = of_and (below f n) (f n) t in go (dec_lt k n) (of_below f n w.0 k) w.1
  where
    go : Dec (k < n) → (k < n → T (f k)) → T (f n) → T (f k)
    go (yes l) ih u = ih l
    go (no l) ih u = let e : k ≡ n = omega arith in rw e u

pub to_below : (f : ℕ → Bool) (n : ℕ) → ((k : ℕ) → k < n → T (f k)) → T (below f n)
unfolding below
to_below f zero h = tt
to_below f (suc n) h = to_and (below f n) (f n) (to_below f n (λ k l. h k (omega arith))) (h n (omega arith))

module _ {A : Type 0} (p : A → Bool) where
  pub of_each : (l : List A) → T (each p l) → (z : A) → Mem z l → T (p z)
  unfolding each
  of_each [] t z m = absurd (not-nil m)
  of_each (x ∷ l) t z (here e) = rw e (of_and (p x) (each p l) t).0
  of_each (x ∷ l) t z (there m) = of_each l (of_and (p x) (each p l) t).1 z m

  pub to_each : (l : List A) → ((z : A) → Mem z l → T (p z)) → T (each p l)
  unfolding each
  to_each [] h = tt
  to_each (x ∷ l) h = to_and (p x) (each p l) (h x (here refl)) (to_each l (λ z m. h z (there m)))

  pub of_some : (l : List A) → T (some p l) → (z : A) × Mem z l × T (p z)
  unfolding some
  of_some [] t = absurd t
  of_some (x ∷ l) t = elim (of_or (p x) (some p l) t) [ inl u ↦ (x, here refl, u) | inr u ↦ let w = of_some l u in (w.0, there w.1, w.2) ]

  pub to_some : (l : List A) (z : A) → Mem z l → T (p z) → T (some p l)
  unfolding some
  to_some [] z m t = absurd (not-nil m)
  to_some (x ∷ l) z (here e) t = or_left (p x) (some p l) (subst (λ (u : A). T (p u)) e t)
  to_some (x ∷ l) z (there m) t = or_right (p x) (some p l) (to_some l z m t)

-- ---- members in a row

module _ {A : Type 0} (p : A → Bool) {lt : A → A → Bool} (o : StrictOrder lt) where
  -- the first of what is left, and the rest
  of_after : (x y : A) (l : List A) → T (after p lt x (y ∷ l)) → T (p y) × T (lt x y) × T (after p lt y l)
  unfolding after
  of_after x y l t =
      let w = of_and (p y && lt x y) (after p lt y l) t in
      let v = of_and (p y) (lt x y) w.0 in
      (v.0, v.1, w.1)

  after_passes : (x : A) (l : List A) → T (after p lt x l) → (z : A) → Mem z l → T (p z)
  after_passes x [] t z m = absurd (not-nil m)
  after_passes x (y ∷ l) t z (here e) = rw e (of_after x y l t).0
  after_passes x (y ∷ l) t z (there m) = after_passes y l (of_after x y l t).2 z m

  after_above : (x : A) (l : List A) → T (after p lt x l) → (z : A) → Mem z l → T (lt x z)
  after_above x [] t z m = absurd (not-nil m)
  after_above x (y ∷ l) t z (here e) = rw e (of_after x y l t).1
  after_above x (y ∷ l) t z (there m) = let w = of_after x y l t in o.trans x y z w.1 (after_above y l w.2 z m)

  after_sorted : (x : A) (l : List A) → T (after p lt x l) → Sorted lt (x ∷ l)
  after_sorted x [] t = more (λ y m. absurd (not-nil m)) none
  after_sorted x (y ∷ l) t = more (after_above x (y ∷ l) t) (after_sorted y l (of_after x y l t).2)

  pub row_passes : (l : List A) → T (in_row p lt l) → (z : A) → Mem z l → T (p z)
  unfolding in_row
  row_passes [] t z m = absurd (not-nil m)
  row_passes (x ∷ l) t z (here e) = rw e (of_and (p x) (after p lt x l) t).0
  row_passes (x ∷ l) t z (there m) = after_passes x l (of_and (p x) (after p lt x l) t).1 z m

  pub row_sorted : (l : List A) → T (in_row p lt l) → Sorted lt l
  unfolding in_row
  row_sorted [] t = none
  row_sorted (x ∷ l) t = after_sorted x l (of_and (p x) (after p lt x l) t).1

module _ {A : Type 0} (p : A → Bool) (lt : A → A → Bool) where
  to_after : {x : A} {l : List A} → ((z : A) → Mem z l → T (p z)) → Sorted lt (x ∷ l) → T (after p lt x l)
  unfolding after
  to_after {l = []} h s = tt
  to_after {x} {l = y ∷ l} h (more a s) =
      to_and (p y && lt x y) (after p lt y l) (to_and (p y) (lt x y) (h y (here refl)) (a y (here refl))) (to_after (λ z m. h z (there m)) s)

  pub to_row : {l : List A} → ((z : A) → Mem z l → T (p z)) → Sorted lt l → T (in_row p lt l)
  unfolding in_row
  to_row h none = tt
  to_row h (more {x = x} {l = l} a s) = to_and (p x) (after p lt x l) (h x (here refl)) (to_after (λ z m. h z (there m)) (more a s))
