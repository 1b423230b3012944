-- Sums over the numbers below n and over a list: what is at most as large each and no smaller in all is the same each; two sums of
-- counts exchanged; and what is kept in one place each.
use mathlib.Core.Path.{◌≡◌, refl, ap, ap₂, ◌∙◌}
use mathlib.Core.Bool.{Bool, true, false}
use mathlib.Core.List.Memᴰ.{head as here}
use mathlib.Core.List.Memᴰ.{tail as there}
use mathlib.Core.List.{List, [], ◌∷◌, Memᴰ as Mem}
use Prim.Native.Nat.{ℕ, zero, suc, ◌+◌, ◌*◌, ◌≤◌, ◌<◌}
use native.Mathlib.Omega.{arith}
use native.Mathlib.Decide.{dec_lt}
use lib.ListN.{length, length-append}
use Rattle.lists.specs.Lists.{cons_if, keep, joined, one_more, count, sum_to, sum_over}

pub length-joined : {A : Type 0} (f : ℕ → List A) (n : ℕ) → length (joined f n) ≡ sum_to (λ k. length (f k)) n
unfolding joined sum_to
length-joined f zero = refl
length-joined f (suc n) = rw (length-append, length-joined f n)

pub sum_ext : (f g : ℕ → ℕ) (n : ℕ) → ((k : ℕ) → k < n → f k ≡ g k) → sum_to f n ≡ sum_to g n
unfolding sum_to
sum_ext f g zero h = refl
sum_ext f g (suc n) h = ap₂ ◌+◌ (sum_ext f g n (λ k l. h k (omega arith))) (h n (omega arith))

sum_le : (f g : ℕ → ℕ) (n : ℕ) → ((k : ℕ) → k < n → f k ≤ g k) → sum_to f n ≤ sum_to g n
unfolding sum_to
sum_le f g zero h = omega arith
sum_le f g (suc n) h = let i = sum_le f g n (λ k l. h k (omega arith)) in omega (arith, h n (omega arith))

-- each at most the other's, and no smaller in all: each is no smaller
pub sum_tight : (f g : ℕ → ℕ) (n : ℕ) → ((k : ℕ) → k < n → f k ≤ g k) → sum_to g n ≤ sum_to f n → (k : ℕ) → k < n → g k ≤ f k
unfolding sum_to
sum_tight f g zero h t k l = absurd (omega arith)
sum_tight f g (suc n) h t k l = go (dec_lt k n) (sum_tight f g n (λ j i. h j (omega arith)))
  where
    go : Dec (k < n) → (sum_to g n ≤ sum_to f n → (j : ℕ) → j < n → g j ≤ f j) → g k ≤ f k
    go (yes p) ih = ih (omega (arith, h n (omega arith))) k p
    go (no p) ih =
        let e : k ≡ n = omega arith in
        let i = sum_le f g n (λ j q. h j (omega arith)) in
        rw e (omega arith)

pub sum-over-add : {A : Type 0} (f g h : A → ℕ) → ((x : A) → f x + g x ≡ h x) → (l : List A) → sum_over f l + sum_over g l ≡ sum_over h l
unfolding sum_over
sum-over-add f g h e [] = refl
sum-over-add f g h e (x ∷ l) = omega (arith, e x, sum-over-add f g h e l)

-- ---- two sums exchanged

pub one_more_lem : (b : Bool) (n : ℕ) → one_more b n ≡ one_more b 0 + n
one_more_lem true n = omega arith
one_more_lem false n = omega arith

length-cons_if : {A : Type 0} (b : Bool) (x : A) (l : List A) → length (cons_if b x l) ≡ one_more b 0 + length l
length-cons_if true x l = omega arith
length-cons_if false x l = omega arith

module _ {A : Type 0} (b : ℕ → A → Bool) where
  no_sum : (n : ℕ) → sum_to (λ k. length (keep (b k) [])) n ≡ 0
  unfolding sum_to keep
  no_sum zero = refl
  no_sum (suc n) = omega (arith, no_sum n)

  one_sum : (x : A) (l : List A) (n : ℕ) → sum_to (λ k. length (keep (b k) (x ∷ l))) n ≡ count (λ k. b k x) n + sum_to (λ k. length (keep (b k) l)) n
  unfolding sum_to keep count
  one_sum x l zero = refl
  one_sum x l (suc n) = omega (arith, one_sum x l n, length-cons_if (b n x) x (keep (b n) l), one_more_lem (b n x) (count (λ k. b k x) n))

  -- what is kept in each of n places, added up, is for each member the number of places that keep it, added up
  pub exchange : (l : List A) (n : ℕ) → sum_to (λ k. length (keep (b k) l)) n ≡ sum_over (λ x. count (λ k. b k x) n) l
  unfolding sum_over
  exchange [] n = no_sum n
  exchange (x ∷ l) n = one_sum x l n ∙ ap (λ (i : ℕ). count (λ k. b k x) n + i) (exchange l n)

  -- where each member that passes a test is kept in one of n places, and each other in none, that is as many as pass
  pub sum_kept : (p : A → Bool) (l : List A) (n : ℕ) → ((x : A) → Mem x l → count (λ k. b k x) n ≡ one_more (p x) 0)
      → sum_to (λ k. length (keep (b k) l)) n ≡ length (keep p l)
  unfolding keep
  sum_kept p [] n h = no_sum n
  sum_kept p (x ∷ l) n h =
      omega (arith, one_sum x l n, h x (here refl), sum_kept p l n (λ y m. h y (there m)), length-cons_if (p x) x (keep p l))

-- ---- counts by twos

-- the number at 2 × p and that at 2 × p + 1, as one number
unfoldable pub pair_of : (ℕ → Bool) → ℕ → ℕ
pair_of f p = one_more (f (suc (2 * p))) (one_more (f (2 * p)) 0)

pub count_pairs : (f : ℕ → Bool) (n : ℕ) → count f (2 * suc n) ≡ pair_of f n + count f (2 * n)
unfolding count pair_of
count_pairs f n =
    let d : 2 * suc n ≡ suc (suc (2 * n)) = omega arith in
    let odd = f (suc (2 * n)) in
    let even = f (2 * n) in
    rw d (omega (arith, one_more_lem odd (one_more even (count f (2 * n))), one_more_lem even (count f (2 * n)), one_more_lem odd (one_more even 0)))
