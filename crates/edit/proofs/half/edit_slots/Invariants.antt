-- After so many turns the first of the trip's slots are done: for every index that the words at entry are of.
use mathlib.Core.Path.{◌≡◌}
use mathlib.Core.List.{List}
use Rattle.ruler.specs.Ruler.{Scale}
use Rattle.trip.specs.declared.Trip.{Trip}
use Rattle.layout.specs.Words.{Index}
use Rattle.store.specs.TripWalk.{slots_of_trip}
use Rattle.store.specs.Slots.{Holds}
use Rattle.edit.specs.SlotSteps.{slots_after, Steps}
use Rattle.edit.proofs.half.edit_slots.Given as goal

abbrev pub invariant-loop-spot : goal.invariant-loop-spot
invariant-loop-spot g l =
    (s : Scale) (x : Index) (ts : List Trip) → Steps g.E.Edit.ready g.E.Edit.changed s x l.t ts l.half l.initial.dir l.initial.arena
    → l.spots ≡ slots_of_trip s l.half l.t → Holds l.dir l.arena (slots_after s l.half x l.t ts l.spot-index)
