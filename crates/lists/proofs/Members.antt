-- Members of the lists that the definitions make, and relations that hold of each member with each that follows it.
use mathlib.Core.Path.{◌≡◌, refl, sym, ap, subst, ◌∙◌}
use mathlib.Core.Logic.{inl, inr}
use mathlib.Core.Bool.{Bool, true, false, cond, not}
use mathlib.Core.List.Memᴰ.{head as here}
use mathlib.Core.List.Memᴰ.{not-nil}
use mathlib.Core.List.Memᴰ.{tail as there}
use mathlib.Core.List.{List, [], ◌∷◌, ◌++◌, Memᴰ as Mem}
use mathlib.Core.List.Memᴰ.{append_cases}
use mathlib.Core.List.Memᴰ.{append_left}
use mathlib.Core.List.Memᴰ.{append_right}
use Prim.Native.Nat.{ℕ, zero, suc, ◌≤◌, ◌<◌}
use native.Mathlib.Omega.{arith}
use native.Mathlib.Decide.{dec_lt}
use lib.Dec.{T}
use lib.ListN.{length}
use Rattle.lists.specs.Lists.{cons_if, keep, insert, sort, joined}

-- every member of the one is a member of the other
abbrev pub In : {A : Type 0} → List A → List A → Type 0
In {A} l k = (z : A) → Mem z l → Mem z k

-- R holds of each member with each that follows it
pub data Pairs {A : Type 0} (R : A → A → Type 0) : List A → Type 0 where
  none : Pairs R []
  more : {x : A} {l : List A} → ((y : A) → Mem y l → R x y) → Pairs R l → Pairs R (x ∷ l)

-- ---- the members of what the definitions make

module _ {A : Type 0} (p : A → Bool) where
  keep_mem : {x z : A} {l k : List A} (b : Bool) → p x ≡ b → (Mem z k → Mem z l × T (p z)) → Mem z (cons_if b x k) → Mem z (x ∷ l) × T (p z)
  keep_mem true e ih (here q) = (here q, subst (λ (y : A). T (p y)) (sym q) (rw e tt))
  keep_mem true e ih (there m) = (there (ih m).0, (ih m).1)
  keep_mem false e ih m = (there (ih m).0, (ih m).1)

  pub of_keep : (l : List A) (z : A) → Mem z (keep p l) → Mem z l × T (p z)
  unfolding keep
  of_keep [] z m = absurd (not-nil m)
  of_keep (x ∷ l) z m = keep_mem (p x) refl (of_keep l z) m

  mem_keep : {x z : A} {l k : List A} (b : Bool) → p x ≡ b → T (p z) → (Mem z l → Mem z k) → Mem z (x ∷ l) → Mem z (cons_if b x k)
  mem_keep true e t ih (here q) = here q
  mem_keep true e t ih (there m) = there (ih m)
  mem_keep false e t ih (here q) = absurd (rw (q, e) at t)
  mem_keep false e t ih (there m) = ih m

  pub to_keep : (l : List A) (z : A) → Mem z l → T (p z) → Mem z (keep p l)
  unfolding keep
  to_keep [] z m t = absurd (not-nil m)
  to_keep (x ∷ l) z m t = mem_keep (p x) refl t (λ n. to_keep l z n t) m

  pub keep-length : (l : List A) → length (keep p l) ≤ length l
  unfolding keep
  keep-length [] = omega arith
  keep-length (x ∷ l) = go (p x) (keep-length l)
    where
      go : (b : Bool) → length (keep p l) ≤ length l → length (cons_if b x (keep p l)) ≤ suc (length l)
      go true h = omega arith
      go false h = omega arith

  -- a member that does not pass makes the list shorter
  pub keep_shorter : (l : List A) (z : A) → Mem z l → T (not (p z)) → length (keep p l) < length l
  unfolding keep
  keep_shorter [] z m t = absurd (not-nil m)
  keep_shorter (x ∷ l) z (here q) t = go (p x) refl (keep-length l)
    where
      go : (b : Bool) → p x ≡ b → length (keep p l) ≤ length l → length (cons_if b x (keep p l)) < suc (length l)
      go true e h = absurd (rw (q, e) at t)
      go false e h = omega arith
  keep_shorter (x ∷ l) z (there m) t = go (p x) (keep_shorter l z m t)
    where
      go : (b : Bool) → length (keep p l) < length l → length (cons_if b x (keep p l)) < suc (length l)
      go true h = omega arith
      go false h = omega arith

  pub keep_in : {l k : List A} → In l k → In (keep p l) (keep p k)
  keep_in {l} {k} h z m = to_keep k z (h z (of_keep l z m).0) (of_keep l z m).1

module _ {A : Type 0} (lt : A → A → Bool) where
  insert-cases : {x y z : A} {l k : List A} (b : Bool) → (Mem z k → Mem z (x ∷ l)) → Mem z (cond b (x ∷ y ∷ l) (y ∷ k)) → Mem z (x ∷ y ∷ l)
  insert-cases true ih m = m
  insert-cases false ih (here e) = there (here e)
  insert-cases false ih (there m) = elim (ih m) [ here e ↦ here e | there n ↦ there (there n) ]

  pub of_insert : (x : A) (l : List A) → In (insert lt x l) (x ∷ l)
  unfolding insert
  of_insert x [] z m = m
  of_insert x (y ∷ l) z m = insert-cases (lt x y) (of_insert x l z) m

  insert_mem : {x y z : A} {l k : List A} (b : Bool) → (Mem z (x ∷ l) → Mem z k) → Mem z (x ∷ y ∷ l) → Mem z (cond b (x ∷ y ∷ l) (y ∷ k))
  insert_mem true ih m = m
  insert_mem false ih (here e) = there (ih (here e))
  insert_mem false ih (there (here e)) = here e
  insert_mem false ih (there (there m)) = there (ih (there m))

  pub to_insert : (x : A) (l : List A) → In (x ∷ l) (insert lt x l)
  unfolding insert
  to_insert x [] z m = m
  to_insert x (y ∷ l) z m = insert_mem (lt x y) (to_insert x l z) m

  pub of_sort : (l : List A) → In (sort lt l) l
  unfolding sort
  of_sort [] z m = m
  of_sort (x ∷ l) z m = elim (of_insert x (sort lt l) z m) [ here e ↦ here e | there n ↦ there (of_sort l z n) ]

  pub to_sort : (l : List A) → In l (sort lt l)
  unfolding sort
  to_sort [] z m = m
  to_sort (x ∷ l) z (here e) = to_insert x (sort lt l) z (here e)
  to_sort (x ∷ l) z (there n) = to_insert x (sort lt l) z (there (to_sort l z n))

  length-insert : (x : A) (l : List A) → length (insert lt x l) ≡ suc (length l)
  unfolding insert
  length-insert x [] = refl
  length-insert x (y ∷ l) = go (lt x y) (length-insert x l)
    where
      go : (b : Bool) → length (insert lt x l) ≡ suc (length l) → length (cond b (x ∷ y ∷ l) (y ∷ insert lt x l)) ≡ suc (suc (length l))
      go true e = refl
      go false e = ap suc e

  pub length-sort : (l : List A) → length (sort lt l) ≡ length l
  unfolding sort
  length-sort [] = refl
  length-sort (x ∷ l) = length-insert x (sort lt l) ∙ ap suc (length-sort l)

module _ {A : Type 0} (f : ℕ → List A) where
  pub of_joined : (n : ℕ) (z : A) → Mem z (joined f n) → (k : ℕ) × (k < n) × Mem z (f k)
  unfolding joined
  of_joined zero z m = absurd (not-nil m)
  of_joined (suc n) z m = elim (append_cases (joined f n) m) [
    | inl h ↦ let w = of_joined n z h in (w.0, omega arith, w.2)
    | inr h ↦ (n, omega arith, h)
  ]

  pub to_joined : (n k : ℕ) (z : A) → k < n → Mem z (f k) → Mem z (joined f n)
  unfolding joined
  to_joined zero k z h m = absurd (omega arith)
  to_joined (suc n) k z h m = go (dec_lt k n) (to_joined n k z)
    where
      go : Dec (k < n) → (k < n → Mem z (f k) → Mem z (joined f n)) → Mem z (joined f (suc n))
      go (yes l) ih = append_left (f n) (ih l m)
      go (no l) ih = let e : k ≡ n = omega arith in append_right (joined f n) (rw e at m)

-- ---- `Pairs` of what the definitions make

module _ {A : Type 0} {R : A → A → Type 0} where
  pub pairs_keep : (p : A → Bool) {l : List A} → Pairs R l → Pairs R (keep p l)
  unfolding keep
  pairs_keep p none = none
  pairs_keep p (more {x = x} {l = l} h d) = go (p x) (pairs_keep p d)
    where
      go : (b : Bool) → Pairs R (keep p l) → Pairs R (cons_if b x (keep p l))
      go true a = more (λ u m. h u (of_keep p l u m).0) a
      go false a = a

  pub pairs_append : {l k : List A} → Pairs R l → Pairs R k → ((x y : A) → Mem x l → Mem y k → R x y) → Pairs R (l ++ k)
  pairs_append none e h = e
  pairs_append {k = k} (more {x = x} {l = l} a d) e h =
      more {x = x} (λ y m. elim (append_cases l {t = k} m) [ inl n ↦ a y n | inr n ↦ h x y (here refl) n ])
      (pairs_append d e (λ u y m. h u y (there m)))

  -- and back: of the one, of the other, and of the members of both
  pub pairs_parts : (l : List A) {k : List A} → Pairs R (l ++ k) → Pairs R l × Pairs R k × ((x y : A) → Mem x l → Mem y k → R x y)
  pairs_parts [] d = (none, d, λ x y m. absurd (not-nil m))
  pairs_parts (x ∷ l) {k} (more h d) =
      let w = pairs_parts l d in (
        more {x = x} (λ y m. h y (append_left k m)) w.0,
        w.1,
        λ u y m n. elim m [ here e ↦ subst (λ (z : A). R z y) (sym e) (h y (append_right l n)) | there q ↦ w.2 u y q n ],
      )

  module _ (symm : (x y : A) → R x y → R y x) (lt : A → A → Bool) where
    pairs_insert : (x : A) (l : List A) → ((y : A) → Mem y l → R x y) → Pairs R l → Pairs R (insert lt x l)
    unfolding insert
    pairs_insert x [] a d = more a none
    pairs_insert x (y ∷ l) a (more h d) = go (lt x y) (pairs_insert x l (λ z m. a z (there m)) d)
      where
        go : (b : Bool) → Pairs R (insert lt x l) → Pairs R (cond b (x ∷ y ∷ l) (y ∷ insert lt x l))
        go true ih = more a (more h d)
        go false ih = more {x = y} (λ z m. elim (of_insert lt x l z m) [ here q ↦ rw q (symm x y (a y (here refl))) | there n ↦ h z n ]) ih

    pub pairs_sort : {l : List A} → Pairs R l → Pairs R (sort lt l)
    unfolding sort
    pairs_sort none = none
    pairs_sort (more {x = x} {l = l} h d) = pairs_insert x (sort lt l) (λ y m. h y (of_sort lt l y m)) (pairs_sort d)

  pub pairs_joined : (f : ℕ → List A) (n : ℕ) → ((k : ℕ) → k < n → Pairs R (f k))
      → ((j k : ℕ) → j < k → k < n → (x y : A) → Mem x (f j) → Mem y (f k) → R x y) → Pairs R (joined f n)
  unfolding joined
  pairs_joined f zero d h = none
  pairs_joined f (suc n) d h =
      pairs_append (pairs_joined f n (λ k l. d k (omega arith)) (λ j k a b. h j k a (omega arith))) (d n (omega arith))
      (λ x y m q. let w = of_joined f n x m in h w.0 n w.1 (omega arith) x y w.2 q)
