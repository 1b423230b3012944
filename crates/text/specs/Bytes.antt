-- The bytes that part others, and a list of bytes parted by one of them.
use Rattle.std.specs.Prelude.{cond, List, [], ◌∷◌, ℕ, suc, ◌+◌, eqb, drop}
use Prim.Native.Char.{code}

-- "Fields are parted by one space and lines by one newline"
abbrev pub space : ℕ
space = code " "

abbrev pub newline : ℕ
newline = code "\n"

-- a byte put in front of the first part
abbrev pub on_first : ℕ → List (List ℕ) → List (List ℕ)
on_first b [] = (b ∷ []) ∷ []
on_first b (p ∷ ps) = (b ∷ p) ∷ ps

-- the parts between the places of the byte s: one more than there are places, so s at the very end has an empty part after it
unfoldable pub parted : ℕ → List ℕ → List (List ℕ)
parted s [] = [] ∷ []
parted s (b ∷ l) = cond (eqb b s) ([] ∷ parted s l) (on_first b (parted s l))

-- how many bytes stand before the first s
unfoldable pub until : ℕ → List ℕ → ℕ
until s [] = 0
until s (b ∷ l) = cond (eqb b s) 0 (suc (until s l))

-- the first place of s from a place on, or the end of the list where there is none
unfoldable pub place_of : ℕ → List ℕ → ℕ → ℕ
place_of s l from = from + until s (drop from l)
