-- Laws of `keep`: of lists joined, of a list that passes whole, of one of which nothing passes, after a wider test, of two tests, and of one more value.
use mathlib.Core.Path.{◌≡◌, refl, ap, ap₂, ◌∙◌}
use mathlib.Core.Bool.{Bool, true, false, ◌&&◌, and-true, and-false}
use mathlib.Core.List.Memᴰ.{head as here}
use mathlib.Core.List.Memᴰ.{tail as there}
use mathlib.Core.List.{List, [], ◌∷◌, ◌++◌, append-nil, Memᴰ as Mem}
use Prim.Native.Nat.{ℕ, zero, suc, ◌+◌, ◌≤◌, ◌<◌}
use native.Mathlib.Numerals.{add-one}
use native.Mathlib.Decide.{le_ind}
use native.Mathlib.Omega.{arith}
use lib.Dec.{T}
use lib.ListN.{length, get_or, length-append}
use Rattle.lists.specs.Lists.{cons_if, keep, joined, up_to}
use Rattle.lists.proofs.Members.{keep-length}
use Rattle.lists.proofs.Upto.{length-up_to}

module _ {A : Type 0} (p : A → Bool) where
  pub keep_append : (l k : List A) → keep p (l ++ k) ≡ keep p l ++ keep p k
  unfolding keep
  keep_append [] k = refl
  keep_append (x ∷ l) k = go (p x) (keep_append l k)
    where
      go : (b : Bool) → keep p (l ++ k) ≡ keep p l ++ keep p k → cons_if b x (keep p (l ++ k)) ≡ cons_if b x (keep p l) ++ keep p k
      go true e = ap (λ (z : List A). x ∷ z) e
      go false e = e

  pub keep-joined : (f : ℕ → List A) (n : ℕ) → keep p (joined f n) ≡ joined (λ q. keep p (f q)) n
  unfolding joined keep
  keep-joined f zero = refl
  keep-joined f (suc n) = keep_append (joined f n) (f n) ∙ ap (λ (z : List A). z ++ keep p (f n)) (keep-joined f n)

  -- where every member passes, nothing is left out
  pub keep_all : (l : List A) → ((z : A) → Mem z l → T (p z)) → keep p l ≡ l
  unfolding keep
  keep_all [] h = refl
  keep_all (x ∷ l) h = go (p x) (h x (here refl)) (keep_all l (λ z m. h z (there m)))
    where
      go : (b : Bool) → T b → keep p l ≡ l → cons_if b x (keep p l) ≡ x ∷ l
      go true t e = ap (λ (z : List A). x ∷ z) e
      go false t e = absurd t

  -- where no value passes, nothing is kept
  pub keep-none : (d : A) (l : List A) → ((j : ℕ) → j < length l → p (get_or l j d) ≡ false) → keep p l ≡ []
  unfolding keep
  keep-none d [] h = refl
  keep-none d (x ∷ l) h = rw (h 0 (omega arith)) (keep-none d l (λ j k. h (suc j) (omega arith)))

  -- tests that agree on every member keep the same
  pub keep_ext : (r : A → Bool) (l : List A) → ((z : A) → Mem z l → p z ≡ r z) → keep p l ≡ keep r l
  unfolding keep
  keep_ext r [] h = refl
  keep_ext r (x ∷ l) h = ap₂ (λ (b : Bool) (k : List A). cons_if b x k) (h x (here refl)) (keep_ext r l (λ z m. h z (there m)))

  -- the same after a wider test as before it
  pub keep-after : (wide : A → Bool) → ((z : A) → wide z ≡ false → p z ≡ false) → (l : List A) → keep p (keep wide l) ≡ keep p l
  unfolding keep
  keep-after wide h [] = refl
  keep-after wide h (x ∷ l) = go (wide x) (h x) (keep-after wide h l)
    where
      go : (b : Bool) → (b ≡ false → p x ≡ false) → keep p (keep wide l) ≡ keep p l → keep p (cons_if b x (keep wide l)) ≡ cons_if (p x) x (keep p l)
      go true n ih = ap (cons_if (p x) x) ih
      go false n ih = rw (n refl) ih

  -- what passes both of two tests passes one and then the other
  pub keep_both : (q : A → Bool) (l : List A) → keep (λ z. p z && q z) l ≡ keep p (keep q l)
  unfolding keep
  keep_both q [] = refl
  keep_both q (x ∷ l) = go (q x) (keep_both q l)
    where
      go : (b : Bool) → keep (λ z. p z && q z) l ≡ keep p (keep q l)
          → cons_if (p x && b) x (keep (λ z. p z && q z) l) ≡ keep p (cons_if b x (keep q l))
      go true ih = rw and-true (ap (cons_if (p x) x) ih)
      go false ih = rw and-false ih

  -- a loop over the values f 0, f 1, .. : what is kept of the first i of them, one turn, and how long it is
  module _ (f : ℕ → A) where
    unfoldable pub kept : ℕ → List A
    kept i = keep p (up_to f i)

    kept_more : (i : ℕ) → kept (suc i) ≡ kept i ++ cons_if (p (f i)) (f i) []
    unfolding kept up_to keep
    kept_more i = keep_append (up_to f i) (f i ∷ [])

    pub kept_hit : (i : ℕ) → p (f i) ≡ true → kept (i + 1) ≡ kept i ++ (f i ∷ [])
    kept_hit i e = rw (add-one i, kept_more i, e)

    pub kept_miss : (i : ℕ) → p (f i) ≡ false → kept (i + 1) ≡ kept i
    kept_miss i e = rw (add-one i, kept_more i, e) (append-nil (kept i))

    pub kept_few : (i : ℕ) → length (kept i) ≤ i
    unfolding kept
    kept_few i = omega (arith, keep-length p (up_to f i), length-up_to f i)

    pub kept_le : (i n : ℕ) → i ≤ n → length (kept i) ≤ length (kept n)
    kept_le i n =
        le_ind (λ (k : ℕ). length (kept i) ≤ length (kept k)) (omega arith)
        (λ k h ih. rw (kept_more k, length-append) (omega arith)) n
