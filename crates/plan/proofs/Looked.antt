-- What the walk of a plan lists, said by the slots of a table: level by level from the deepest, the entries looked at that pass a test.
use mathlib.Core.Bool.{Bool}
use mathlib.Core.List.{List, ◌++◌}
use Prim.Native.Nat.{ℕ, ◌+◌, ◌-◌, ◌*◌, ◌/◌, ◌%◌}
use lib.Dec.{eqb}
use Rattle.lists.specs.Lists.{keep, joined}
use Rattle.ruler.specs.Ruler.{Scale, cell_up}
use Rattle.trip.specs.declared.Trip.{Trip}
use Rattle.layout.specs.declared.Half.{Half}
use Rattle.layout.specs.declared.Half.TheVariants.{Originals, Replicas}
use Rattle.layout.specs.Stored.{subdivision_of}
use Rattle.layout.specs.Words.{slot_trips}
use Rattle.plan.specs.declared.range.Plan.{Plan}
use Rattle.plan.specs.Plan.{original_slots, replica_slots}

-- slot q of a half, counted from the first slot of partition i of level L; and the entries of the first n such slots
unfoldable pub slot_from : Scale → Half → List Trip → (L i q : ℕ) → List Trip
slot_from s h ts L i q = slot_trips s (subdivision_of h (eqb (q % 2) 1)) L (i + q / 2) ts

unfoldable pub slots_from : Scale → Half → List Trip → (L i n : ℕ) → List Trip
slots_from s h ts L i n = joined (slot_from s h ts L i) n

-- how many slots a plan looks at, from the first slot of its low cell's partition on; and the entries there
unfoldable pub width : (m : ℕ) → Plan → Half → (L : ℕ) → ℕ
width m p Originals L = 2 * (cell_up m L p.high.1 - cell_up m L p.low.1) + original_slots p.kind
width m p Replicas L = replica_slots p.kind

unfoldable pub looked_at : Scale → Plan → List Trip → Half → (L : ℕ) → List Trip
looked_at s p ts h L = slots_from s h ts L (cell_up s.m L p.low.1) (width s.m p h L)

-- those of a level that pass the test; and those of n levels, from the deepest on
unfoldable pub level_walk : Scale → (Trip → Bool) → Plan → List Trip → (L : ℕ) → List Trip
level_walk s t p ts L = keep t (looked_at s p ts Originals L) ++ keep t (looked_at s p ts Replicas L)

unfoldable pub walk : Scale → (Trip → Bool) → Plan → List Trip → (n : ℕ) → List Trip
walk s t p ts n = joined (λ up. level_walk s t p ts (s.m - up)) n
