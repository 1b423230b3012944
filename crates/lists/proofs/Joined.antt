-- Lists joined one after another: the first n of them and the rest, one more, some between; lists that are the same, and lists that are no longer.
use mathlib.Core.Path.{◌≡◌, refl, sym, ap, ap₂, ◌∙◌}
use mathlib.Core.List.{List, ◌++◌, append_assoc, append-nil}
use Prim.Native.Nat.{ℕ, zero, suc, ◌+◌, ◌-◌, ◌≤◌, ◌<◌}
use native.Mathlib.Nat.{add-zero, add-suc}
use native.Mathlib.Numerals.{add-one}
use lib.ListN.{length, length-append}
use native.Mathlib.Omega.{arith}
use Rattle.lists.specs.Lists.{joined}

module _ {A : Type 0} (f : ℕ → List A) where
  pub joined-add : (n k : ℕ) → joined f (n + k) ≡ joined f n ++ joined (λ i. f (n + i)) k
  unfolding joined
  joined-add n zero = rw (add-zero n) (sym (append-nil (joined f n)))
  joined-add n (suc k) = rw (add-suc n k, joined-add n k) (append_assoc (joined f n) (joined (λ i. f (n + i)) k) (f (n + k)))

  pub length_more : (k : ℕ) → length (joined f (k + 1)) ≡ length (joined f k) + length (f k)
  unfolding joined
  length_more k = rw add-one (length-append (joined f k) (f k))

  -- the lists n .. n + c - 1 between those before them and those after them, of m in all
  pub joined-split : (n c m : ℕ) → n + c ≤ m → joined f m ≡ joined f n ++ (joined (λ i. f (n + i)) c ++ joined (λ i. f (n + c + i)) (m - (n + c)))
  joined-split n c m h =
      let e : m ≡ n + c + (m - (n + c)) = omega arith in
      let later = joined (λ i. f (n + c + i)) (m - (n + c)) in
      ap (joined f) e ∙ joined-add (n + c) (m - (n + c)) ∙ ap (λ (l : List A). l ++ later) (joined-add n c)
      ∙ append_assoc (joined f n) (joined (λ i. f (n + i)) c) later

-- lists that are the same below n join to the same
pub joined_ext : {A : Type 0} (f g : ℕ → List A) (n : ℕ) → ((k : ℕ) → k < n → f k ≡ g k) → joined f n ≡ joined g n
unfolding joined
joined_ext f g zero h = refl
joined_ext f g (suc n) h = ap₂ ◌++◌ (joined_ext f g n (λ k l. h k (omega arith))) (h n (omega arith))

-- lists that are none longer join to one that is not longer
pub joined_le : {A : Type 0} (f g : ℕ → List A) (n : ℕ) → ((k : ℕ) → length (f k) ≤ length (g k)) → length (joined f n) ≤ length (joined g n)
unfolding joined
joined_le f g zero h = omega arith
joined_le f g (suc n) h = omega (arith, length-append (joined f n) (f n), length-append (joined g n) (g n), joined_le f g n h, h n)
