-- What a directory alone says: where a slot's word stands, how many entries the slots of a level have. That on an index these readings
-- are the census and the runs of document 01 are the laws `row_read` and `run_read`.
use Rattle.std.specs.Prelude.{cond, List, [], ◌∷◌, ℕ, zero, suc, ◌+◌, ◌-◌, ◌*◌, ◌≤◌, ◌<◌, leb, length, get_or}
use Rattle.ruler.specs.Ruler.{deepest}
use Rattle.lists.specs.Lists.{up_to}
use Rattle.layout.specs.declared.Half.{Half}
use Rattle.layout.specs.declared.Half.TheVariants.{Originals, Replicas}
use Rattle.layout.specs.declared.Subdivision.{Subdivision}
use Rattle.layout.specs.declared.Subdivision.TheVariants.{OIn, OAft, RIn, RAft}
use Rattle.layout.specs.Stored.{partitions_at}
use Rattle.layout.specs.Words.{half_length, slot_number}
use Rattle.layout.specs.Answers.{half_of, is_aft}

-- "2P + 1 for originals, then 2P + 1 for replicas": the words of the directory before those of a half
unfoldable pub half_from : (m : ℕ) → Half → ℕ
half_from m Originals = 0
half_from m Replicas = half_length m

-- the place in the directory of the word of a slot: the number of entries before it
unfoldable pub slot_at : (m L i : ℕ) → Subdivision → ℕ
slot_at m L i d = half_from m (half_of d) + slot_number L i (is_aft d)

-- the entries of n slots, each the second after the one before it: a word of the directory taken from the next, n times
unfoldable pub every_second : (directory : List ℕ) → (from n : ℕ) → ℕ
every_second dir from zero = 0
every_second dir from (suc n) = every_second dir from n + (get_or dir (from + 2 * n + 1) 0 - get_or dir (from + 2 * n) 0)

-- the entries of one subdivision of a level, of the four of a level, and of all levels; none above m
unfoldable pub count_of : (directory : List ℕ) → (m L : ℕ) → Subdivision → ℕ
count_of dir m L d = cond (leb L m) (every_second dir (slot_at m L 0 d) (partitions_at L)) 0

unfoldable pub row_of : (directory : List ℕ) → (m L : ℕ) → List ℕ
row_of dir m L = count_of dir m L OIn ∷ count_of dir m L OAft ∷ count_of dir m L RIn ∷ count_of dir m L RAft ∷ []

unfoldable pub rows_of : (directory : List ℕ) → (m : ℕ) → List (List ℕ)
rows_of dir m = up_to (row_of dir m) (suc deepest)

-- ---- what the readers of a directory ask of it

-- n words from one on, and none below the one before it
pub record Rising (directory : List ℕ) (from n : ℕ) : Type 0 where
  pub inside : from + n ≤ length directory
  pub rises : (k : ℕ) → k + 1 < n → get_or directory (from + k) 0 ≤ get_or directory (from + k + 1) 0

-- both halves of the directory of a ruler with this m
pub record Halves (m : ℕ) (directory : List ℕ) : Type 0 where
  pub deep : m ≤ deepest
  pub rising : (h : Half) → Rising directory (half_from m h) (half_length m)
