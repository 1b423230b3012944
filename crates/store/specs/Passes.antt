-- What the passes over a list of words leave.
use Rattle.std.specs.Prelude.{List, [], ◌∷◌, ◌++◌, ℕ, zero, suc, ◌+◌, ◌-◌, ◌*◌, take, drop, replicate}
use Rattle.std.proofs.Math.Seq.{slice}
use Rattle.ruler.specs.Ruler.{deepest, most_trips}
use Rattle.layout.specs.Stored.{most_partitions}
use Rattle.layout.specs.Words.{entry_words}

-- the most entries that a half has: those of the most trips, each in the most partitions of the deepest ruler (the law `entries_most`; how far this
-- is from a word's end says `entries_fit`)
abbrev pub most_entries : ℕ
most_entries = most_trips * most_partitions deepest

-- the words, with f applied to those from index i on
abbrev pub from : ℕ → (List ℕ → List ℕ) → List ℕ → List ℕ
from zero f l = f l
from (suc i) f [] = []
from (suc i) f (x ∷ l) = x ∷ from i f l

-- each word one more, or one less
abbrev pub ups : List ℕ → List ℕ
ups [] = []
ups (x ∷ l) = (x + 1) ∷ ups l

abbrev pub downs : List ℕ → List ℕ
downs [] = []
downs (x ∷ l) = (x - 1) ∷ downs l

-- the sum of the words; and the running ends from n on: each word becomes n with the sum of the words up to it and with it
abbrev pub sum : List ℕ → ℕ
sum [] = 0
sum (x ∷ l) = x + sum l

abbrev pub ends_from : ℕ → List ℕ → List ℕ
ends_from n [] = []
ends_from n (x ∷ l) = (n + x) ∷ ends_from (n + x) l

-- a gap of one entry at word `at`: the words at .. used - 1 stand an entry's words later
unfoldable pub opened : (at used : ℕ) → List ℕ → List ℕ
opened at used l = take (at + entry_words) l ++ (slice at used l ++ drop (used + entry_words) l)

-- the entry at word `at` taken out: the words after it stand an entry's words earlier, and zeros in the words that were the last entry's
unfoldable pub closed : (at used : ℕ) → List ℕ → List ℕ
closed at used l = take at l ++ (slice (at + entry_words) used l ++ (replicate entry_words 0 ++ drop used l))
