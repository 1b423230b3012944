-- Document 01's own input, lines at the edges of what is malformed, ends of input, and numbers written.
-- Assumes nothing.
use mathlib.Core.Path.{◌≡◌, refl}
use mathlib.Core.List.{List, [], ◌∷◌, map}
use Prim.Native.Char.{code}
use Prim.Native.Nat.{ℕ}
use Prim.Native.String.{String}
use Rattle.text.specs.declared.Command.{Command}
use Rattle.text.specs.declared.Command.TheVariants.{Ruler, Add, Remove, Ask}
use Rattle.std.specs.Prelude.{Option, Some, None}
use Rattle.text.specs.Bytes.{parted}
use Rattle.text.specs.Number.{is_digit, all_digits, value_after, value_of, is_number, number_of}
use Rattle.text.specs.Command.{numbers_of, command_of_fields, command_of}
use Rattle.text.specs.Lines.{without_empty_last, lines_of}
use Rattle.text.specs.Decimal.{decimal_in, decimal}

abbrev bytes : String → List ℕ
bytes String.[] = []
bytes (String.◌∷◌ c s) = code c ∷ bytes s

meaning : String → Option Command
unfolding parted is_digit all_digits value_after value_of is_number number_of numbers_of command_of_fields command_of
meaning s = command_of (bytes s)

lines : String → List (List ℕ)
unfolding parted without_empty_last lines_of
lines s = lines_of (bytes s)

-- each line means the command beside it
abbrev Mean : List (String × Option Command) → Type 0
Mean es = map (λ (e : String × Option Command). meaning e.0) es ≡ map (λ (e : String × Option Command). e.1) es

-- T-07: "document 01's cases are run with every bit set and day 0"
abbrev every_day : ℕ
every_day = 4294967295

document : Mean (
    ("D 6 4", Some (Ruler 6 4)) ∷ ("T 7 21 38 4294967295", Some (Add 7 21 38 every_day)) ∷ ("T 3 20 20 4294967295", Some (Add 3 20 20 every_day))
    ∷ ("T 9 0 63 4294967295", Some (Add 9 0 63 every_day)) ∷ ("T 4 39 40 4294967295", Some (Add 4 39 40 every_day))
    ∷ ("Q 13 22 23 0", Some (Ask 13 22 23 0))
    ∷ ("Q 13 38 39 0", Some (Ask 13 38 39 0)) ∷ ("Q 5 10 20 0", Some (Ask 5 10 20 0)) ∷ ("X 3", Some (Remove 3))
    ∷ ("Q 13 0 63 0", Some (Ask 13 0 63 0))
    ∷ ("T 5 40 39 4294967295", Some (Add 5 40 39 every_day)) ∷ [])
unfolding meaning
document = refl

-- any u32 is a day word or a day of the form; a day that there is not, and no days, are the library's to refuse
days : Mean (("T 0 0 0 0", Some (Add 0 0 0 0)) ∷ ("Q 4294967295 0 0 32", Some (Ask 4294967295 0 0 32)) ∷ ("Q 0 0 0 4294967296", None) ∷ [])
unfolding meaning
days = refl

-- ten digits and eleven, the largest u32 and the next number
numbers : Mean (
    ("X 0000000007", Some (Remove 7)) ∷ ("X 00000000007", None) ∷ ("X 4294967295", Some (Remove 4294967295)) ∷ ("X 4294967296", None)
    ∷ ("X -3", None) ∷ ("X 3a", None) ∷ ("X ", None) ∷ [])
unfolding meaning
numbers = refl

-- a space, a letter or a field too many, too few or of another kind
forms : Mean (
    ("X 3 ", None) ∷ (" X 3", None) ∷ ("X  3", None) ∷ ("X\t3", None) ∷ ("X 3\r", None) ∷ ("x 3", None) ∷ ("XX 3", None) ∷ ("X3", None)
    ∷ ("X", None) ∷ ("", None) ∷ ("X 3 4", None) ∷ ("D 6", None) ∷ ("T 7 21 38", None) ∷ ("Q 13 22 23", None)
    ∷ ("T 7 21 38 1 0", None) ∷ ("Q 13 22 23 24 25", None) ∷ [])
unfolding meaning
forms = refl

-- the last newline ends a line and begins none
no_lines : lines "" ≡ []
unfolding lines
no_lines = refl

one_line : map lines ("X 3" ∷ "X 3\n" ∷ "\n" ∷ []) ≡ (bytes "X 3" ∷ []) ∷ (bytes "X 3" ∷ []) ∷ (bytes "" ∷ []) ∷ []
unfolding lines
one_line = refl

two_lines : map lines ("X 3\n\n" ∷ "\nX 3" ∷ []) ≡ (bytes "X 3" ∷ bytes "" ∷ []) ∷ (bytes "" ∷ bytes "X 3" ∷ []) ∷ []
unfolding lines
two_lines = refl

written : map decimal (0 ∷ 7 ∷ 10 ∷ 4294967295 ∷ []) ≡ bytes "0" ∷ bytes "7" ∷ bytes "10" ∷ bytes "4294967295" ∷ []
unfolding decimal decimal_in
written = refl
