-- What a question looks at: one plan for each relationship, a range of level-m cells with the kind of entries looked at over it; and at
-- each level the stretches of the directory that the plan goes through.
use Rattle.std.specs.Prelude.{◌≡◌, Bool, true, false, cond, not, ◌&&◌, ℕ, ◌+◌, ◌-◌, ◌*◌, ◌^◌, ◌≤◌, ◌<◌, ltb}
use Rattle.ruler.specs.declared.Cell.{Cell}
use Rattle.ruler.specs.Ruler.{Scale, deepest, cell_up, cell_of, bottom_cell, next_cell, begins}
use Rattle.trip.specs.declared.Window.{Window}
use Rattle.trip.specs.declared.Relationship.{Relationship}
use Rattle.trip.specs.declared.Relationship.TheVariants.{Equals, Starts, StartedBy, Finishes, FinishedBy, Meets, MetBy, Overlaps, OverlappedBy, Contains, ContainedBy, Before, After, GOverlaps}
use Rattle.layout.specs.Words.{partition_number, half_length}
use Rattle.plan.specs.declared.range.Kind.{Kind}
use Rattle.plan.specs.declared.range.Kind.TheVariants.{Starting, Ending, Crossing}
use Rattle.plan.specs.declared.range.Plan.{Plan}
use Rattle.plan.specs.declared.stretches.Stretch.{Stretch}
use Rattle.plan.specs.declared.stretches.Stretches.{Stretches}

-- ---- the plans

abbrev pub plan : Kind → (low high : Cell) → Plan
plan k low high = record { kind = k; low = low; high = high; quick = false }

-- f and l: the level-m cells of the window's start and end; first and last: those of the ruler
abbrev pub plan_of : Relationship → (f l first last : Cell) → Plan
plan_of Equals f l first last = plan Starting f f
plan_of Starts f l first last = plan Starting f f
plan_of StartedBy f l first last = plan Starting f f
plan_of Finishes f l first last = plan Ending l l
plan_of FinishedBy f l first last = plan Ending l l
plan_of Meets f l first last = plan Starting l l
plan_of MetBy f l first last = plan Ending f f
plan_of Overlaps f l first last = plan Crossing l l
plan_of OverlappedBy f l first last = plan Crossing f f
plan_of Contains f l first last = plan Starting f l
plan_of ContainedBy f l first last = plan Crossing f f
plan_of Before f l first last = plan Starting l last
plan_of After f l first last = plan Starting first f
plan_of GOverlaps f l first last = record { kind = Crossing; low = f; high = l; quick = true }

unfoldable pub plan_for : Scale → Relationship → Window → Plan
plan_for s r q = plan_of r (bottom_cell s q.start) (bottom_cell s q.end) (cell_of s.m 0) (cell_of s.m (2 ^ s.m - 1))

-- a plan for the cells of level m
pub record Ranged (m : ℕ) (p : Plan) : Type 0 where
  pub deep : m ≤ deepest
  pub low_level : p.low.0 ≡ m
  pub high_level : p.high.0 ≡ m
  pub ordered : p.low.1 ≤ p.high.1
  pub bounded : p.high.1 < 2 ^ m

-- how many slots of the last partition's originals are looked at, and of the first one's replicas: "in" alone, or "in" and "aft"
abbrev pub original_slots : Kind → ℕ
original_slots Starting = 2
original_slots Ending = 1
original_slots Crossing = 2

abbrev pub replica_slots : Kind → ℕ
replica_slots Starting = 0
replica_slots Ending = 1
replica_slots Crossing = 2

-- ---- the stretches of a level

-- the first slot of partition i of level L; and of the partition in which a cell lies
unfoldable pub first_slot : (L i : ℕ) → ℕ
first_slot L i = 2 * partition_number L i

abbrev pub slot_at : Cell → (L : ℕ) → ℕ
slot_at c L = first_slot L (cell_up c.0 L c.1)

-- in a quick plan: the low cell is not the last of its partition, so that what the partition holds ends after it; and the high cell is
-- not the first of its partition, so that what the partition holds starts before it
unfoldable pub sure_first : Plan → (L : ℕ) → Bool
sure_first p L = p.quick && not (begins (next_cell p.low) L)

unfoldable pub sure_last : Plan → (L : ℕ) → Bool
sure_last p L = p.quick && not (begins p.high L)

-- from one word of a directory up to another, and whether the entries there are known to match
abbrev pub stretch : (from to : ℕ) → (sure : Bool) → Stretch
stretch from to sure = record { from = from; to = to; sure = sure }

abbrev pub stretches : (first between last replicas : Stretch) → Stretches
stretches first between last replicas = record { first = first; between = between; last = last; replicas = replicas }

-- from the first partition's slot p to the last one's slot q; where the two are one partition, it is the last
unfoldable pub arranged : (p q slots : ℕ) → (quick sure_first sure_last : Bool) → (replicas : Stretch) → Stretches
arranged p q slots quick sf sl r =
    cond (ltb p q) (stretches (stretch p (p + 2) sf) (stretch (p + 2) q quick) (stretch q (q + slots) sl) r)
    (stretches (stretch p p quick) (stretch p p quick) (stretch p (p + slots) (sf && sl)) r)

unfoldable pub stretches_at : Plan → (L : ℕ) → Stretches
stretches_at p L =
    let from = half_length p.low.0 + slot_at p.low L in
    arranged (slot_at p.low L) (slot_at p.high L) (original_slots p.kind) p.quick (sure_first p L) (sure_last p L)
    (stretch from (from + replica_slots p.kind) (sure_first p L))
