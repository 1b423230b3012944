-- The places where the trip may stand are halved until one is left.
use Rattle.layout.specs.declared.Subdivision.TheVariants.{OIn}
use Rattle.store.specs.Ordered.{key_place}
use Rattle.store.proofs.Classes.{Narrowed}
use Rattle.store.proofs.SlotKeys.{keys_at}
use Rattle.verify.proofs.origin.has_trip.Given as goal

abbrev pub invariant-loop-width : goal.invariant-loop-width
invariant-loop-width l = Narrowed l.sought.key (keys_at (key_place OIn) l.part) l.low l.width

abbrev pub decreases-loop-width : goal.decreases-loop-width
decreases-loop-width l = l.width
