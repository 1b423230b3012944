-- The trips of a stretch that match, and ids written to the front of a list.
use Rattle.std.specs.Prelude.{◌≡◌, Bool, List, ◌++◌, ℕ, ◌+◌, length, take, drop}
use Rattle.lists.specs.Lists.{keep, over}
use Rattle.trip.specs.declared.Trip.{Trip}
use Rattle.layout.specs.Words.{rows}
use Rattle.store.specs.Entries.{ids}
use Rattle.store.specs.Parts.{part_words}
use Rattle.plan.specs.declared.stretches.Stretch.{Stretch}

-- the ids of these trips stand in the first words of a list, its later words stay, and r is their number
pub record Listed (ts : List Trip) (old new : List ℕ) (r : ℕ) : Type 0 where
  pub counted : r ≡ length ts
  pub written : new ≡ over (ids ts) old

-- the same from the word n on: the words before it stay, and r is the word after the ids
pub record ListedFrom (n : ℕ) (ts : List Trip) (old new : List ℕ) (r : ℕ) : Type 0 where
  pub counted : r ≡ n + length ts
  pub written : new ≡ take n old ++ over (ids ts) (drop n old)

-- the trips of a stretch that match. A test is told whether the trips of the stretch are sure to be within the bounds.
unfoldable pub stretch_matches : (Bool → Trip → Bool) → (directory arena : List ℕ) → Stretch → List Trip
stretch_matches t d a s = keep (t s.sure) (rows (part_words d a s.from s.to))
