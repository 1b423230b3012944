-- What a field is as a number.
use Rattle.std.specs.Prelude.{Bool, true, cond, Option, Some, None, ◌&&◌, List, [], ◌∷◌, ℕ, ◌+◌, ◌-◌, ◌*◌, ◌^◌, leb, ltb, length}
use Prim.Native.Char.{code}

-- "decimal digits"
abbrev pub base : ℕ
base = 10

abbrev pub digit_zero : ℕ
digit_zero = code "0"

abbrev pub digit_nine : ℕ
digit_nine = code "9"

unfoldable pub is_digit : ℕ → Bool
is_digit b = leb digit_zero b && leb b digit_nine

unfoldable pub all_digits : List ℕ → Bool
all_digits [] = true
all_digits (b ∷ l) = is_digit b && all_digits l

-- the value of digits that stand after those of the value v, and of digits alone
unfoldable pub value_after : ℕ → List ℕ → ℕ
value_after v [] = v
value_after v (b ∷ l) = value_after (v * base + (b - digit_zero)) l

unfoldable pub value_of : List ℕ → ℕ
value_of l = value_after 0 l

-- "a malformed line, as is a number that isn't a u32 in 1 to 10 decimal digits". Zeros may lead.
abbrev pub most_digits : ℕ
most_digits = 10

unfoldable pub is_number : List ℕ → Bool
is_number l = leb 1 (length l) && leb (length l) most_digits && all_digits l && ltb (value_of l) (2 ^ 32)

unfoldable pub number_of : List ℕ → Option ℕ
number_of l = cond (is_number l) (Some (value_of l)) None
