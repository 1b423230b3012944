-- The loop's invariant, for each test that the closure is: the rows before low pass it, and those from high on do not.
use mathlib.Core.Bool.{Bool}
use Prim.Native.Nat.{◌-◌, ◌/◌, ◌≤◌}
use lib.ListN.{length}
use Rattle.trip.specs.declared.Trip.{Trip}
use Rattle.layout.specs.Words.{entry_words}
use Rattle.store.specs.Ordered.{Tells, InFront}
use Rattle.store.proofs.Found.{Meeting}
use Rattle.store.proofs.search.entries_while.Given as goal

abbrev pub invariant-loop-low : goal.invariant-loop-low
invariant-loop-low g l =
    (l.high ≤ length l.part / entry_words) × ((test : Trip → Bool) → Tells (goal.F-post g l.passes) test → InFront test l.part → Meeting l.part test l.low l.high)

abbrev pub decreases-loop-low : goal.decreases-loop-low
decreases-loop-low g l = l.high - l.low
