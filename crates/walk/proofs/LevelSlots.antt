-- The stretches of a level as an index has them: partitions by their slots, each slot in its order. Between the words and the looks.
use mathlib.Core.Path.{◌≡◌}
use mathlib.Core.Bool.{Bool, true, false, cond}
use mathlib.Core.List.{List, ◌++◌}
use Prim.Native.Nat.{ℕ, ◌+◌, ◌/◌, ◌<◌}
use lib.Dec.{ltb}
use lib.ListN.{length}
use Rattle.trip.specs.declared.Trip.{Trip}
use Rattle.layout.specs.declared.Half.{Half}
use Rattle.layout.specs.declared.Half.TheVariants.{Originals, Replicas}
use Rattle.layout.specs.Stored.{subdivision_of}
use Rattle.layout.specs.Words.{entry_words, trip_at, order}
use Rattle.plan.specs.declared.stretches.Stretch.{Stretch}
use Rattle.plan.specs.declared.stretches.Stretches.{Stretches}
use Rattle.plan.specs.Plan.{stretch}
use Rattle.store.specs.Parts.{part_words, PartThere}
use Rattle.walk.specs.Part.{stretch_matches}

-- the entries of a part are in the order of their subdivision
abbrev pub InTurn : Half → (aft : Bool) → (part : List ℕ) → Type 0
InTurn h aft part = (i j : ℕ) → i < j → j < length part / entry_words → order (subdivision_of h aft) (trip_at part i) (trip_at part j) ≡ true

-- the stretch of a partition has the "in" slot alone, or the "in" slot and the "aft" slot, or none
abbrev pub after_in : Stretch → ℕ
after_in s = cond (ltb s.from s.to) (s.from + 1) s.from

abbrev pub in_slot : Stretch → Stretch
in_slot s = stretch s.from (after_in s) s.sure

abbrev pub aft_slot : Stretch → Stretch
aft_slot s = stretch (after_in s) s.to s.sure

-- both are there, in their order
pub record SlotsThere (h : Half) (directory arena : List ℕ) (s : Stretch) : Type 0 where
  pub whole : PartThere directory arena s.from s.to
  pub in_there : PartThere directory arena s.from (after_in s)
  pub aft_there : PartThere directory arena (after_in s) s.to
  pub in_order : InTurn h false (part_words directory arena s.from (after_in s))
  pub aft_order : InTurn h true (part_words directory arena (after_in s) s.to)

-- the stretches of a level, in a directory d: three of the originals o, side by side, and one of the replicas r; and their matches
pub record AllThere (d o r : List ℕ) (s : Stretches) : Type 0 where
  pub first : SlotsThere Originals d o s.first
  pub between : PartThere d o s.between.from s.between.to
  pub last : SlotsThere Originals d o s.last
  pub replicas : SlotsThere Replicas d r s.replicas
  pub first_between : s.first.to ≡ s.between.from
  pub between_last : s.between.to ≡ s.last.from

unfoldable pub four_matches : (Bool → Trip → Bool) → (directory originals replicas : List ℕ) → Stretches → List Trip
four_matches t d o r s =
    ((stretch_matches t d o s.first ++ stretch_matches t d o s.between) ++ stretch_matches t d o s.last) ++ stretch_matches t d r s.replicas
