-- What is written of a number is read back as that number.
-- Assumes nothing.
use mathlib.Core.Path.{◌≡◌, refl}
use mathlib.Core.Bool.{Bool, true, false, ◌&&◌}
use mathlib.Core.List.{List, [], ◌∷◌, ◌++◌}
use Prim.Native.Nat.{ℕ, ◌+◌, ◌-◌, ◌*◌, ◌%◌, ◌^◌, ◌<◌}
use native.Mathlib.Omega.{arith}
use Rattle.std.specs.Prelude.{Some}
use Rattle.text.specs.Number.{base, digit_zero, is_digit, all_digits, value_after, value_of, number_of}
use Rattle.text.specs.Decimal.{digit, decimal}
use Rattle.text.proofs.FieldRead.{is_digit_lem, a_number}
use Rattle.text.proofs.Writing.{by_digits, some-digit, ten_digits}

digits_then : (l : List ℕ) (b : ℕ) → all_digits l ≡ true → is_digit b ≡ true → all_digits (l ++ (b ∷ [])) ≡ true
unfolding all_digits
digits_then [] b p q = rw q
digits_then (a ∷ l) b p q = go (is_digit a) p (λ r. digits_then l b r q)
  where
    go : (t : Bool) → t && all_digits l ≡ true → (all_digits l ≡ true → all_digits (l ++ (b ∷ [])) ≡ true)
        → t && all_digits (l ++ (b ∷ [])) ≡ true
    go true r rest = rest r
    go false r rest = r

value_then : (l : List ℕ) (v b : ℕ) → value_after v (l ++ (b ∷ [])) ≡ value_after v l * base + (b - digit_zero)
unfolding value_after
value_then [] v b = refl
value_then (a ∷ l) v b = value_then l (v * base + (a - digit_zero)) b

-- the digits of a number are digits, and of its value
decimal_digits : (n : ℕ) → all_digits (decimal n) ≡ true
unfolding all_digits
decimal_digits =
    by_digits (λ n l. all_digits l ≡ true)
    (λ n h. rw (is_digit_lem (digit n) (omega arith) (omega arith)))
    (λ n l h p. digits_then l (digit (n % base)) p (is_digit_lem (digit (n % base)) (omega arith) (omega arith)))

decimal_value : (n : ℕ) → value_of (decimal n) ≡ n
unfolding value_of value_after
decimal_value =
    by_digits (λ n l. value_of l ≡ n) (λ n h. omega arith) (λ n l h p. rw (value_then l 0 (digit (n % base)), p) (omega arith))

pub read_back : (n : ℕ) → n < 2 ^ 32 → number_of (decimal n) ≡ Some n
read_back n h =
    let value = decimal_value n in
    rw (a_number (decimal n) (some-digit n) (ten_digits n h) (decimal_digits n) (rw value h), value)
