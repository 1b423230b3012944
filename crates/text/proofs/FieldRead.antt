-- Laws of a field read as a number: which test decides, and what is known of the digits read so far.
-- Assumes nothing.
use mathlib.Core.Path.{◌≡◌, refl, sym}
use mathlib.Core.Bool.{true, false}
use mathlib.Core.List.{List}
use Prim.Native.Nat.{ℕ, ◌+◌, ◌-◌, ◌*◌, ◌^◌, ◌≤◌, ◌<◌}
use native.Mathlib.Nat.{pow-suc, pow-le-pow_right, lt_of_lt_of_le}
use native.Mathlib.Numerals.{add-one}
use native.Mathlib.Omega.{arith}
use borrow.Author.Tests.{le-leb, lt-leb, lt-ltb, le-ltb}
use lib.Arith.{digits_lt}
use lib.Dec.{lit<}
use lib.ListN.{length, drop, get_or, drop_of_length-le}
use lib.Seq.{drop-cons}
use Rattle.std.specs.Prelude.{Some, None, Result, Ok, Err}
use Rattle.std.specs.Result.{OkIff, result_ok}
use Rattle.text.specs.Number.{
  base,
  most_digits,
  digit_zero,
  digit_nine,
  is_digit,
  all_digits,
  value_after,
  value_of,
  is_number,
  number_of,
}

-- ---- Which test decides

pub is_digit_lem : (b : ℕ) → digit_zero ≤ b → b ≤ digit_nine → is_digit b ≡ true
unfolding is_digit
is_digit_lem b low high = rw (le-leb digit_zero b low, le-leb b digit_nine high)

pub no_digits : (l : List ℕ) → length l < 1 → number_of l ≡ None
unfolding number_of is_number
no_digits l h = rw (lt-leb 1 (length l) h)

pub too_many : (l : List ℕ) → most_digits < length l → number_of l ≡ None
unfolding number_of is_number
too_many l h = rw (le-leb 1 (length l) (omega arith), lt-leb (length l) most_digits h)

module _ (l : List ℕ) (some : 1 ≤ length l) (few : length l ≤ most_digits) where
  pub not_digits : all_digits l ≡ false → number_of l ≡ None
  unfolding number_of is_number
  not_digits e = rw (le-leb 1 (length l) some, le-leb (length l) most_digits few, e)

  pub too_large : all_digits l ≡ true → 2 ^ 32 ≤ value_of l → number_of l ≡ None
  unfolding number_of is_number
  too_large e h = rw (le-leb 1 (length l) some, le-leb (length l) most_digits few, e, le-ltb (value_of l) (2 ^ 32) h)

  pub a_number : all_digits l ≡ true → value_of l < 2 ^ 32 → number_of l ≡ Some (value_of l)
  unfolding number_of is_number
  a_number e h = rw (le-leb 1 (length l) some, le-leb (length l) most_digits few, e, lt-ltb (value_of l) (2 ^ 32) h)

-- ---- The digits read so far

-- the first i bytes are digits, of the value v, and what is left to read decides the whole
pub record ReadTo (l : List ℕ) (i v : ℕ) : Type 0 where
  pub within : i ≤ length l
  pub small : v < base ^ i
  pub digits_left : all_digits (drop i l) ≡ all_digits l
  pub value_left : value_after v (drop i l) ≡ value_of l

pub read_none : (l : List ℕ) → ReadTo l 0 0
unfolding value_of
read_none l = record { within = omega arith; small = lit< tt; digits_left = refl; value_left = refl }

module _ (l : List ℕ) (i v : ℕ) (r : ReadTo l i v) where
  pub read_more : i < length l → digit_zero ≤ get_or l i 0 → get_or l i 0 ≤ digit_nine
      → ReadTo l (i + 1) (v * base + (get_or l i 0 - digit_zero))
  unfolding all_digits value_after
  read_more h low high =
      let next = drop-cons l i 0 h in
      record {
        within = omega arith;
        small = rw (add-one, pow-suc) (digits_lt r.small (omega arith));
        digits_left = rw (add-one, ← r.digits_left, next, is_digit_lem (get_or l i 0) low high);
        value_left = rw (add-one, ← r.value_left, next);
      }

  -- ten digits make a number that a u64 holds
  pub read_fits : i ≤ most_digits → v < base ^ most_digits
  read_fits h = lt_of_lt_of_le r.small (pow-le-pow_right (lit< tt) h)

  read_all : length l ≤ i → (all_digits l ≡ true) × (value_of l ≡ v)
  unfolding all_digits value_after
  read_all h = let none = drop_of_length-le l {i = i} h in (rw (← r.digits_left, none), rw (← r.value_left, none))

  module _ (some : 1 ≤ length l) (few : length l ≤ most_digits) where
    pub read_other : i < length l → is_digit (get_or l i 0) ≡ false → number_of l ≡ None
    unfolding all_digits
    read_other h e = not_digits l some few (rw (← r.digits_left, drop-cons l i 0 h, e))

    read_large : length l ≤ i → 2 ^ 32 ≤ v → number_of l ≡ None
    read_large h k = let e = read_all h in too_large l some few e.0 (rw e.1 k)

    read_number : length l ≤ i → v < 2 ^ 32 → number_of l ≡ Some v
    read_number h k = let e = read_all h in rw (a_number l some few e.0 (rw e.1 k), e.1)

    pub read_word : {E : Type 0} (r : Result ℕ E) → length l ≤ i → OkIff r (v < 2 ^ 32) v → result_ok r ≡ number_of l
    read_word (Ok w) h e = rw e.1 (sym (read_number h e.0))
    read_word (Err w) h e = sym (read_large h (omega arith))
