-- Document 01, "Words of the index", as definitions. Every test is a Bool and computes.
use Rattle.std.specs.Prelude.{◌≡◌, ◌↔◌, Bool, cond, ◌&&◌, ◌||◌, ℕ, zero, suc, ◌+◌, ◌-◌, ◌*◌, ◌/◌, ◌%◌, ◌^◌, leb, ltb, eqb, length, get_or}
use mathlib.Core.List.{List, [], ◌∷◌, ◌++◌, Memᴰ as Mem}
use Rattle.lists.specs.Lists.{count, keep, sort, joined, up_to, padded}
use Rattle.ruler.specs.Ruler.{Scale, before, same_time}
use Rattle.trip.specs.declared.Trip.{Trip}
use Rattle.trip.specs.Trips.{trip_of}
use Rattle.layout.specs.declared.Half.{Half}
use Rattle.layout.specs.declared.Half.TheVariants.{Originals, Replicas}
use Rattle.layout.specs.declared.Subdivision.{Subdivision}
use Rattle.layout.specs.declared.Subdivision.TheVariants.{OIn, OAft, RIn, RAft}
use Rattle.layout.specs.Stored.{holds_trip, belongs, subdivision_of}

-- "A table row and an index entry are three words: id, start, end." Document 02, T-07: "Rows and entries become four words", the fourth for the days.
-- (Here alone: how many words, which, and how they are read.)
abbrev pub entry_words : ℕ
entry_words = 4

unfoldable pub trip_words : Trip → List ℕ
trip_words t = t.id ∷ t.start.0 ∷ t.end.0 ∷ t.days ∷ []

-- the trip whose words stand at place k of a list of entries
unfoldable pub trip_at : List ℕ → (k : ℕ) → Trip
trip_at l k =
    trip_of (get_or l (entry_words * k) 0) (get_or l (entry_words * k + 1) 0) (get_or l (entry_words * k + 2) 0) (get_or l (entry_words * k + 3) 0)

-- the words of trips one after another, and the whole rows of a list of words
unfoldable pub words : List Trip → List ℕ
words [] = []
words (t ∷ ts) = trip_words t ++ words ts

unfoldable pub rows : List ℕ → List Trip
rows l = up_to (trip_at l) (length l / entry_words)

-- "So row order in the table has no influence on the index": tables with the same rows, in whatever order
pub record Reordered (a b : List ℕ) : Type 0 where
  pub as_long : length a ≡ length b
  pub same_rows : (t : Trip) → Mem t (rows a) ↔ Mem t (rows b)

-- "With P = 2^(m+1) − 1"
unfoldable pub partitions : (m : ℕ) → ℕ
partitions m = 2 ^ (m + 1) - 1

-- "the directory has 4P + 2 words: 2P + 1 for originals, then 2P + 1 for replicas"
unfoldable pub directory_length : (m : ℕ) → ℕ
directory_length m = 4 * partitions m + 2

unfoldable pub half_length : (m : ℕ) → ℕ
half_length m = 2 * partitions m + 1

-- "Partition i of level L has number p = 2^L − 1 + i"
unfoldable pub partition_number : (L i : ℕ) → ℕ
partition_number L i = 2 ^ L - 1 + i

-- the level of partition p, of the levels 0 to m: the last whose first partition comes no later than p; and its place there
unfoldable pub level_of : (m p : ℕ) → ℕ
level_of zero p = zero
level_of (suc L) p = cond (leb (partition_number (suc L) 0) p) (suc L) (level_of L p)

unfoldable pub place_of : (m p : ℕ) → ℕ
place_of m p = p - partition_number (level_of m p) 0

-- as many partitions as hold a trip, of the levels 0 to m
unfoldable pub partitions_holding : Scale → Trip → ℕ
partitions_holding s t = count (λ p. holds_trip s (level_of s.m p) (place_of s.m p) t) (partitions s.m)

-- "its "in" slot is 2p and its "aft" slot 2p + 1": so slot k is one of partition k / 2, and an "aft" slot where k is odd
unfoldable pub slot_number : (L i : ℕ) → (aft : Bool) → ℕ
slot_number L i aft = 2 * partition_number L i + cond aft 1 0

-- "Order in a slot: O_in and O_aft by start then id; R_in by end then id; R_aft by id."
unfoldable pub by_id : Trip → Trip → Bool
by_id x y = ltb x.id y.id

unfoldable pub by_start : Trip → Trip → Bool
by_start x y = before x.start y.start || (same_time x.start y.start && by_id x y)

unfoldable pub by_end : Trip → Trip → Bool
by_end x y = before x.end y.end || (same_time x.end y.end && by_id x y)

unfoldable pub order : Subdivision → Trip → Trip → Bool
order OIn = by_start
order OAft = by_start
order RIn = by_end
order RAft = by_id

-- the trips of a table in one subdivision of partition i of level L, in their order
unfoldable pub slot_trips : Scale → Subdivision → (L i : ℕ) → List Trip → List Trip
slot_trips s d L i ts = sort (order d) (keep (belongs s d L i) ts)

-- the subdivision of a half's slot k: the "aft" slots have odd numbers
abbrev pub subdivision_at : Half → (k : ℕ) → Subdivision
subdivision_at h k = subdivision_of h (eqb (k % 2) 1)

-- the entries of a half's slot k, of its first k slots, and of all of them
unfoldable pub slot : Scale → Half → List Trip → (k : ℕ) → List Trip
slot s h ts k = slot_trips s (subdivision_at h k) (level_of s.m (k / 2)) (place_of s.m (k / 2)) ts

unfoldable pub entries_before : Scale → Half → List Trip → (k : ℕ) → List Trip
entries_before s h ts k = joined (slot s h ts) k

unfoldable pub entries : Scale → Half → List Trip → List Trip
entries s h ts = entries_before s h ts (2 * partitions s.m)

-- "The word of a slot is the number of entries before it; the last word of a half is that half's total."
unfoldable pub directory_half : Scale → Half → List Trip → List ℕ
directory_half s h ts = up_to (λ k. length (entries_before s h ts k)) (half_length s.m)

-- "Two arenas hold the entries, slot after slot, originals in one and replicas in the other. Every arena word after the last entry is 0."
unfoldable pub arena : Scale → Half → List Trip → (length : ℕ) → List ℕ
arena s h ts n = padded n (words (entries s h ts))

-- the words of an index, and their three lengths
pub record Index : Type 0 where
  pub directory : List ℕ
  pub originals : List ℕ
  pub replicas : List ℕ

pub record Lengths : Type 0 where
  pub directory : ℕ
  pub originals : ℕ
  pub replicas : ℕ

unfoldable pub lengths_of : Index → Lengths
lengths_of x = record { directory = length x.directory; originals = length x.originals; replicas = length x.replicas }

-- the index of a table in arenas of these lengths (it has them where the entries have room: the law `layout-lengths`)
unfoldable pub layout : Scale → List Trip → Lengths → Index
layout s ts n = record {
  directory = directory_half s Originals ts ++ directory_half s Replicas ts;
  originals = arena s Originals ts n.originals;
  replicas = arena s Replicas ts n.replicas;
}
