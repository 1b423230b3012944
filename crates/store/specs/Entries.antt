-- Entries in a list of words.
use Rattle.std.specs.Prelude.{Bool, ◌&&◌, ◌||◌, List, ◌++◌, map, ℕ, ◌+◌, ◌*◌, ltb, take, drop}
use Rattle.ruler.specs.declared.Time.{Time}
use Rattle.ruler.specs.Ruler.{before, same_time}
use Rattle.trip.specs.declared.Trip.{Trip}
use Rattle.layout.specs.Words.{entry_words, trip_words}

-- the first number that is no word
abbrev pub word_end : ℕ
word_end = 4294967296

-- the words l with those of the trip at place k
unfoldable pub put : (k : ℕ) → Trip → List ℕ → List ℕ
put k t l = take (entry_words * k) l ++ (trip_words t ++ drop (entry_words * k + entry_words) l)

-- a time before another, or the same time and a lower id
abbrev pub keyed_before : (x y : Time) → (i j : ℕ) → Bool
keyed_before x y i j = before x y || (same_time x y && ltb i j)

abbrev pub ids : List Trip → List ℕ
ids ts = map (λ (t : Trip). t.id) ts
