-- The places where the id may stand are halved until one is left.
use Rattle.store.proofs.Classes.{Narrowed}
use Rattle.store.proofs.ids.holds.Given as goal

abbrev pub invariant-loop-width : goal.invariant-loop-width
invariant-loop-width l = Narrowed l.id l.room l.low l.width

abbrev pub decreases-loop-width : goal.decreases-loop-width
decreases-loop-width l = l.width
