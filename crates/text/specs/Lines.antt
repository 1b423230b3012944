-- How an input is parted into lines.
use Rattle.std.specs.Prelude.{List, [], ◌∷◌, ℕ}
use Rattle.text.specs.Bytes.{newline, parted}

-- a part, or nothing where it is empty
abbrev pub unless_empty : List ℕ → List (List ℕ)
unless_empty [] = []
unless_empty (b ∷ l) = (b ∷ l) ∷ []

-- the parts, without a last one that is empty
unfoldable pub without_empty_last : List (List ℕ) → List (List ℕ)
without_empty_last [] = []
without_empty_last (p ∷ []) = unless_empty p
without_empty_last (p ∷ q ∷ ps) = p ∷ without_empty_last (q ∷ ps)

-- "lines by one newline, which the last may lack": nothing after the last newline is no line. So the empty input has no line, and a
-- newline alone is one empty line
unfoldable pub lines_of : List ℕ → List (List ℕ)
lines_of l = without_empty_last (parted newline l)
