-- What a line means, by itself, and None for a malformed one. That D comes first and once, and that its m is at most 8, is for the session
-- to judge.
use Rattle.std.specs.Prelude.{cond, Option, Some, None, List, [], ◌∷◌, ℕ, ◌+◌, ◌*◌, eqb, length, option_and_then}
use Prim.Native.Char.{code}
use Rattle.text.specs.declared.Command.{Command}
use Rattle.text.specs.declared.Command.TheVariants.{Ruler, Add, Remove, Ask}
use Rattle.text.specs.Bytes.{space, parted}
use Rattle.text.specs.Number.{most_digits, number_of}

-- a number with others after it, where all of them are numbers
abbrev pub followed_by : Option ℕ → Option (List ℕ) → Option (List ℕ)
followed_by None others = None
followed_by (Some n) None = None
followed_by (Some n) (Some ns) = Some (n ∷ ns)

-- the numbers of fields, where all of them are numbers
unfoldable pub numbers_of : List (List ℕ) → Option (List ℕ)
numbers_of [] = Some []
numbers_of (f ∷ fs) = followed_by (number_of f) (numbers_of fs)

-- "D w m (m at most 8) once first, T id st end to add, X id to remove, Q code st end", with T-07: "In the session T and Q take one number
-- more, last"; malformed is "any line of another form"
abbrev pub form_of : ℕ → List ℕ → Option Command
form_of letter [] = None
form_of letter (id ∷ []) = cond (eqb letter (code "X")) (Some (Remove id)) None
form_of letter (w ∷ m ∷ []) = cond (eqb letter (code "D")) (Some (Ruler w m)) None
form_of letter (a ∷ b ∷ c ∷ []) = None
form_of letter (a ∷ st ∷ end ∷ d ∷ []) =
    cond (eqb letter (code "T")) (Some (Add a st end d)) (cond (eqb letter (code "Q")) (Some (Ask a st end d)) None)
form_of letter (a ∷ b ∷ c ∷ d ∷ e ∷ ns) = None

-- the first field is the letter, alone, and the others are numbers; "an empty line .. is malformed": its one field is empty
unfoldable pub command_of_fields : List (List ℕ) → Option Command
command_of_fields [] = None
command_of_fields ([] ∷ fs) = None
command_of_fields ((letter ∷ []) ∷ fs) = option_and_then (form_of letter) (numbers_of fs)
command_of_fields ((a ∷ b ∷ l) ∷ fs) = None

-- "Fields are parted by one space": two spaces have an empty field between them, which is no number
unfoldable pub command_of : List ℕ → Option Command
command_of line = command_of_fields (parted space line)

-- the most numbers of a line
abbrev pub most_numbers : ℕ
most_numbers = 4

-- the most bytes of a line that is not malformed: a letter, and as many numbers of the most digits, each after a space
abbrev pub longest_line : ℕ
longest_line = 1 + most_numbers * (1 + most_digits)

-- the numbers of what a line has after its letter: of nothing, or of the fields after a space
unfoldable pub numbers_left : List ℕ → Option (List ℕ)
numbers_left [] = Some []
numbers_left (b ∷ l) = cond (eqb b space) (numbers_of (parted space l)) None

-- the numbers, where there are n of them
abbrev pub exactly : ℕ → Option (List ℕ) → Option (List ℕ)
exactly n None = None
exactly n (Some ns) = cond (eqb (length ns) n) (Some ns) None
