-- Document 01, "Where a trip is stored", as definitions. Every test is a Bool and computes.
use Rattle.std.specs.Prelude.{Bool, true, false, cond, not, ◌&&◌, ℕ, zero, suc, ◌+◌, ◌-◌, ◌*◌, ◌/◌, ◌^◌, leb, ltb, eqb}
use Rattle.ruler.specs.Ruler.{Scale, cell_up}
use Rattle.trip.specs.declared.Trip.{Trip}
use Rattle.layout.specs.declared.Half.{Half}
use Rattle.layout.specs.declared.Half.TheVariants.{Originals, Replicas}
use Rattle.layout.specs.declared.Subdivision.{Subdivision}
use Rattle.layout.specs.declared.Subdivision.TheVariants.{OIn, OAft, RIn, RAft}

-- "Level L (0 to m) has 2^L partitions"
unfoldable pub partitions_at : (L : ℕ) → ℕ
partitions_at L = 2 ^ L

-- "partition i covers level-m cells i × 2^(m−L) to (i+1) × 2^(m−L) − 1"
unfoldable pub first_cell : (m L i : ℕ) → ℕ
first_cell m L i = i * 2 ^ (m - L)

unfoldable pub last_cell : (m L i : ℕ) → ℕ
last_cell m L i = (i + 1) * 2 ^ (m - L) - 1

-- "all its cells lie in a..b"
unfoldable pub within : (m L i a b : ℕ) → Bool
within m L i a b = leb a (first_cell m L i) && leb (last_cell m L i) b

-- "A partition holds the trip exactly if all its cells lie in a..b and it is at level 0 or its parent's cells don't all lie in a..b."
unfoldable pub holds : (m L i a b : ℕ) → Bool
holds m zero i a b = within m zero i a b
holds m (suc L) i a b = within m (suc L) i a b && not (within m L (i / 2) a b)

-- "Let a and b be the level-m cells of a trip's start and end."
unfoldable pub holds_trip : Scale → (L i : ℕ) → Trip → Bool
holds_trip s L i t = holds s.m L i (s.cell t.start) (s.cell t.end)

-- "It follows, and is proved, that a trip lies in at most two partitions of a level": the law `level_two`. In all levels together it lies in at most
-- so many, 1 where m < 2 and else 2(m − 1): the law `most_partitions_lem` (document 02, T-06).
abbrev pub most_partitions : (m : ℕ) → ℕ
most_partitions m = cond (ltb m 2) 1 (2 * (m - 1))

-- "In a partition the trip is original (O) if the cell of its start at that level is i, else replica (R)."
unfoldable pub is_original : Scale → (L i : ℕ) → Trip → Bool
is_original s L i t = eqb (cell_up s.m L (s.cell t.start)) i

-- "It is "in" if the cell of its end at that level is i, else "aft"."
unfoldable pub is_in : Scale → (L i : ℕ) → Trip → Bool
is_in s L i t = eqb (cell_up s.m L (s.cell t.end)) i

-- the subdivision of a half's "in" or "aft" entries; and whether it is that of an entry, which is original or not and "in" or not
unfoldable pub subdivision_of : Half → (aft : Bool) → Subdivision
subdivision_of Originals false = OIn
subdivision_of Originals true = OAft
subdivision_of Replicas false = RIn
subdivision_of Replicas true = RAft

unfoldable pub is_of : Subdivision → (is_original is_in : Bool) → Bool
is_of OIn o e = o && e
is_of OAft o e = o && not e
is_of RIn o e = not o && e
is_of RAft o e = not o && not e

-- the trip has an entry in this subdivision of partition i of level L
unfoldable pub belongs : Scale → Subdivision → (L i : ℕ) → Trip → Bool
belongs s d L i t = holds_trip s L i t && is_of d (is_original s L i t) (is_in s L i t)
