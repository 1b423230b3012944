-- Laws of a number written in decimal digits: one digit more, how many there are, and the digits over the front of a list.
-- Assumes nothing.
use mathlib.Core.Path.{◌≡◌, refl}
use mathlib.Core.Bool.{Bool, true, false, cond}
use mathlib.Core.List.{List, [], ◌∷◌, ◌++◌}
use Prim.Native.Nat.{ℕ, zero, suc, max, ◌+◌, ◌*◌, ◌/◌, ◌%◌, ◌^◌, ◌≤◌, ◌<◌}
use native.Mathlib.Nat.{pow-suc, div-lt_iff_lt-mul}
use native.Mathlib.Numerals.{add-one}
use native.Mathlib.Omega.{arith}
use borrow.Author.Tests.{le-leb, lt-leb, lt-ltb, le-ltb, ltb-true, ltb-false}
use lib.Dec.{ltb, lit<}
use lib.ListN.{length, take, drop, set, length-append}
use lib.Seq.{set_split, drop_at, length-take-le, append_snoc}
use Rattle.text.specs.Number.{base, most_digits}
use Rattle.text.specs.Decimal.{digit, decimal_in, decimal, written, written_of}
use Rattle.lists.specs.Lists.{over}

-- ---- The digits

-- what holds of one digit, and of digits with one more after them, holds of every number's digits
module _ (P : ℕ → List ℕ → Type 0)
    (one : (n : ℕ) → n < base → P n (digit n ∷ []))
    (more : (n : ℕ) (l : List ℕ) → base ≤ n → P (n / base) l → P n (l ++ (digit (n % base) ∷ []))) where
  in_digits : (k n : ℕ) → n < k → P n (decimal_in k n)
  unfolding decimal_in
  in_digits zero n h = absurd (omega arith)
  in_digits (suc k) n h = go (ltb n base) refl (λ p. in_digits k (n / base) (omega arith))
    where
      go : (t : Bool) → ltb n base ≡ t → (base ≤ n → P (n / base) (decimal_in k (n / base)))
          → P n (cond t (digit n ∷ []) (decimal_in k (n / base) ++ (digit (n % base) ∷ [])))
      go true e rest = one n (ltb-true n base e)
      go false e rest = more n _ (ltb-false n base e) (rest (ltb-false n base e))

  pub by_digits : (n : ℕ) → P n (decimal n)
  unfolding decimal
  by_digits n = in_digits (suc n) n (omega arith)

-- room for more digits than there are changes nothing
same_digits : (k n : ℕ) → n < k → (j : ℕ) → n < j → decimal_in k n ≡ decimal_in j n
unfolding decimal_in
same_digits = in_digits (λ n l. (j : ℕ) → n < j → l ≡ decimal_in j n) one more
  where
    one : (n : ℕ) → n < base → (j : ℕ) → n < j → digit n ∷ [] ≡ decimal_in j n
    one n h zero g = absurd (omega arith)
    one n h (suc j) g = rw (lt-ltb n base h)

    more : (n : ℕ) (l : List ℕ) → base ≤ n → ((j : ℕ) → n / base < j → l ≡ decimal_in j (n / base))
        → (j : ℕ) → n < j → l ++ (digit (n % base) ∷ []) ≡ decimal_in j n
    more n l h rest zero g = absurd (omega arith)
    more n l h rest (suc j) g = rw (le-ltb n base h, rest j (omega arith))

decimal_one : (n : ℕ) → n < base → decimal n ≡ digit n ∷ []
unfolding decimal decimal_in
decimal_one n h = rw (lt-ltb n base h)

decimal-more : (n : ℕ) → base ≤ n → decimal n ≡ decimal (n / base) ++ (digit (n % base) ∷ [])
unfolding decimal decimal_in
decimal-more n h = rw (le-ltb n base h, same_digits n (n / base) (omega arith) (suc (n / base)) (omega arith))

-- ---- How many there are

pub length_one : (n : ℕ) → n < base → length (decimal n) ≡ 1
length_one n h = rw (decimal_one n h)

pub length_more : (n : ℕ) → base ≤ n → length (decimal n) ≡ length (decimal (n / base)) + 1
length_more n h = rw (decimal-more n h, length-append)

pub some-digit : (n : ℕ) → 1 ≤ length (decimal n)
some-digit = by_digits (λ n l. 1 ≤ length l) (λ n h. omega arith) (λ n l h p. rw length-append (omega arith))

pub one_digit : (n : ℕ) → length (decimal n) ≤ 1 → n < base
one_digit n e = go (ltb n base) refl
  where
    go : (t : Bool) → ltb n base ≡ t → n < base
    go true p = ltb-true n base p
    go false p = absurd (omega (arith, length_more n (ltb-false n base p), some-digit (n / base)))

pub some_digits : (n : ℕ) → 2 ≤ length (decimal n) → base ≤ n
some_digits n h = go (ltb n base) refl
  where
    go : (t : Bool) → ltb n base ≡ t → base ≤ n
    go true p = absurd (omega (arith, length_one n (ltb-true n base p)))
    go false p = ltb-false n base p

pow-pos : (k : ℕ) → 0 < base ^ k
pow-pos zero = omega arith
pow-pos (suc k) = rw pow-suc (omega (arith, pow-pos k))

-- a number below 10 ^ (k + 1) has at most k + 1 digits, and a u32 at most ten
few_digits : (n k : ℕ) → n < base ^ suc k → length (decimal n) ≤ suc k
few_digits = by_digits (λ n l. (k : ℕ) → n < base ^ suc k → length l ≤ suc k) (λ n h k p. omega arith) more
  where
    more : (n : ℕ) (l : List ℕ) → base ≤ n → ((k : ℕ) → n / base < base ^ suc k → length l ≤ suc k)
        → (k : ℕ) → n < base ^ suc k → length (l ++ (digit (n % base) ∷ [])) ≤ suc k
    more n l h rest zero p = omega arith
    more n l h rest (suc k) p =
        rw length-append (omega (arith, rest k ((div-lt_iff_lt-mul (lit< tt)).1 (rw (← pow-suc) p))))

-- one that is not below 10 ^ k has more than k digits
many_digits : (n k : ℕ) → base ^ k ≤ n → suc k ≤ length (decimal n)
many_digits = by_digits (λ n l. (k : ℕ) → base ^ k ≤ n → suc k ≤ length l) one more
  where
    one : (n : ℕ) → n < base → (k : ℕ) → base ^ k ≤ n → suc k ≤ 1
    one n h zero p = omega arith
    one n h (suc k) p = absurd (omega (arith, pow-pos k, rw pow-suc at p))

    more : (n : ℕ) (l : List ℕ) → base ≤ n → ((k : ℕ) → base ^ k ≤ n / base → suc k ≤ length l)
        → (k : ℕ) → base ^ k ≤ n → suc k ≤ length (l ++ (digit (n % base) ∷ []))
    more n l h rest zero p = rw length-append (omega arith)
    more n l h rest (suc k) p = rw length-append (omega (arith, rest k (omega (arith, rw pow-suc at p))))

pub all_digits : (n k : ℕ) → base ^ k ≤ max n 1 → max n 1 < base * base ^ k → suc k ≡ length (decimal n)
all_digits zero zero low high = rw (length_one 0 (omega arith))
all_digits zero (suc k) low high = absurd (omega (arith, rw pow-suc at low, pow-pos k))
all_digits (suc n) k low high = omega (arith, many_digits (suc n) k (omega arith), few_digits (suc n) k (rw pow-suc (omega arith)))

pub ten_digits : (n : ℕ) → n < 2 ^ 32 → length (decimal n) ≤ most_digits
ten_digits n h = few_digits n 9 (omega arith)

-- ---- The digits over the front of a list

-- the last of the bytes may be set first
over_last : (xs : List ℕ) (b : ℕ) (l : List ℕ) → length xs < length l → over xs (set l (length xs) b) ≡ over (xs ++ (b ∷ [])) l
unfolding over
over_last xs b l h =
    let n = length xs in
    let after = drop_at (take n l) (b ∷ drop (suc n) l) n (length-take-le n l (omega arith)) in
    rw (set_split l n b h, after, length-append, append_snoc, add-one)

module _ (n i : ℕ) (l : List ℕ) (count : i + 1 ≡ length (decimal n)) (room : i < length l) where
  pub put-more : base ≤ n → over (decimal (n / base)) (set l i (digit (n % base))) ≡ over (decimal n) l
  put-more h =
      let last : i ≡ length (decimal (n / base)) = omega (arith, length_more n h) in
      rw (decimal-more n h, last, over_last (decimal (n / base)) (digit (n % base)) l (rw last at room))

  pub put_last : n < base → set l i (digit n) ≡ over (decimal n) l
  unfolding over
  put_last h =
      let last : i ≡ 0 = omega (arith, length_one n h) in
      rw (decimal_one n h, last, ← over_last [] (digit n) l (rw last at room))

-- room for the digits, or none
pub fits-front : (n : ℕ) (l : List ℕ) → length (decimal n) ≤ length l
    → written_of n l ≡ written (length (decimal n)) (over (decimal n) l)
unfolding written_of
fits-front n l h = rw (le-leb (length (decimal n)) (length l) h)

pub no_room : (n : ℕ) (l : List ℕ) → length l < length (decimal n) → written_of n l ≡ written 0 l
unfolding written_of
no_room n l h = rw (lt-leb (length (decimal n)) (length l) h)
