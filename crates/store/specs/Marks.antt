-- Marks that ids set, each a bit of a word: an id whose mark is not set was not among those that set theirs.
use Rattle.std.specs.Prelude.{Bool, List, ℕ, ◌/◌, ◌%◌, ◌^◌, eqb, get_or, set}
use Rattle.std.specs.Int.Bits.{bit_or}
use Rattle.store.specs.Entries.{word_end}
use Rattle.store.specs.Ids.{spread}

-- how many bits a word has
abbrev pub word_bits : ℕ
word_bits = 32

-- how many words of marks there are, a mark for each bit
abbrev pub mark_words : ℕ
mark_words = 128

-- how many words have the same mark: all words over all marks
abbrev pub mark_share : ℕ
mark_share = 1048576

-- the mark of an id: where the low word of the product stands whose high word is its class
unfoldable pub mark_of : (classes id : ℕ) → ℕ
mark_of classes id = spread classes id % word_end / mark_share

-- the bit of a mark, in its word
abbrev pub bit_at : (marks : List ℕ) (mark : ℕ) → ℕ
bit_at marks mark = get_or marks (mark / word_bits) 0 / 2 ^ (mark % word_bits) % 2

-- a mark is set
unfoldable pub marked : (marks : List ℕ) (mark : ℕ) → Bool
marked marks mark = eqb (bit_at marks mark) 1

-- the marks with one more
unfoldable pub with_mark : (marks : List ℕ) (mark : ℕ) → List ℕ
with_mark marks mark = set marks (mark / word_bits) (bit_or (get_or marks (mark / word_bits) 0) (2 ^ (mark % word_bits)))
