-- An input byte by byte: the lines of one whose first line has begun.
-- Assumes nothing.
use mathlib.Core.Path.{◌≡◌}
use mathlib.Core.Bool.{true, false}
use mathlib.Core.List.{List, [], ◌∷◌, ◌++◌, append-nil, append_assoc}
use Prim.Native.Nat.{ℕ}
use lib.Dec.{eqb}
use Rattle.text.specs.Bytes.{newline, parted}
use Rattle.text.specs.Lines.{unless_empty, without_empty_last, lines_of}
use Rattle.text.proofs.Parting.{parted_first}

-- the parts, with bytes in front of the first
abbrev on_front : List ℕ → List (List ℕ) → List (List ℕ)
on_front l [] = l ∷ []
on_front l (p ∷ ps) = (l ++ p) ∷ ps

-- the lines of an input, of whose first line l was read before
unfoldable pub lines_after : List ℕ → List ℕ → List (List ℕ)
lines_after l input = without_empty_last (on_front l (parted newline input))

pub after_nothing : (input : List ℕ) → lines_after [] input ≡ lines_of input
unfolding lines_after lines_of
after_nothing input = rw (parted_first newline input)

-- at the end of the input l is the last line, unless it is empty
pub after_all : (l : List ℕ) → lines_after l [] ≡ unless_empty l
unfolding lines_after parted without_empty_last
after_all l = rw append-nil

module _ (l : List ℕ) (b : ℕ) (input : List ℕ) where
  -- a newline ends the line, and any other byte belongs to it
  pub after-newline : eqb b newline ≡ true → lines_after l (b ∷ input) ≡ l ∷ lines_of input
  unfolding lines_after lines_of parted without_empty_last
  after-newline e = rw (e, parted_first newline input, append-nil)

  pub after_byte : eqb b newline ≡ false → lines_after l (b ∷ input) ≡ lines_after (l ++ (b ∷ [])) input
  unfolding lines_after parted
  after_byte e = rw (e, parted_first newline input, append_assoc)
