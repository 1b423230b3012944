-- What is written and the rest of the walk are the whole walk.
use Rattle.store.specs.TripWalk.{slots_of}
use Rattle.store.proofs.Walking.{Going}
use Rattle.store.proofs.places.slots_of.Given as goal

abbrev pub invariant-loop-half : goal.invariant-loop-half
invariant-loop-half l =
    Going l.half l.initial.spots l.spots l.n l.lo l.hi l.first l.last (slots_of l.half l.initial.first.0 l.initial.first.1 l.initial.last.1)

abbrev pub decreases-loop-half : goal.decreases-loop-half
decreases-loop-half l = l.lo.0
