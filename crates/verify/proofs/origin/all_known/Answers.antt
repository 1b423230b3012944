-- The trips left are all known exactly if all of them are.
use Rattle.ruler.specs.Made.{scale}
use Rattle.layout.specs.Refusals.{fits}
use Rattle.store.specs.Ordered.{key_place}
use Rattle.verify.proofs.LoopTurns.{each_row, each_more, each_stop, each_end}
use native.Mathlib.Omega.{arith}
use Rattle.verify.proofs.origin.all_known.Goals as goal

pub invariant_of-sought : goal.invariant_of-sought
unfolding key_place
invariant_of-sought c = record { keyed = rw c.trip_at.ensures c.key_at.ensures }

pub is_known-requires-clause-trip_fits : goal.is_known-requires-clause-trip_fits
is_known-requires-clause-trip_fits c =
    let read = c.trip_at.ensures in
    let fit = each_row c.args.part.now (fits (scale c.args.ruler)) c.requires.rows_fit c.loop-k.k (omega arith) in
    rw read fit

pub returns-then-not-is_known : goal.returns-then-not-is_known
returns-then-not-is_known c =
    each_stop c.args.part.now _ _ c.loop-k.invariant (omega arith) (rw (← c.trip_at.ensures, ← c.is_known.ensures) c.if-not-is_known.true)

pub loop-k-preserved : goal.loop-k-preserved
loop-k-preserved c =
    each_more c.args.part.now _ _ c.loop-k.invariant (omega arith) (rw (← c.trip_at.ensures, ← c.is_known.ensures) c.if-not-is_known.false)

pub returns : goal.returns
returns c = each_end c.args.part.now _ _ c.loop-k.invariant (omega arith)
