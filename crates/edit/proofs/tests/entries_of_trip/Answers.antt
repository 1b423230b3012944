-- The walk is no longer than the list that is lent.
use Rattle.edit.proofs.Spotted.{over-inside}
use native.Mathlib.Omega.{arith}
use Rattle.edit.proofs.tests.entries_of_trip.Goals as goal

pub returns : goal.returns
returns c = let g = c.trip_slots in (g.ensures.0, omega (arith, over-inside g.result _ _ _ g.ensures.0 g.ensures.1, g.auto))
