-- The sum so far, with that of the rows left, is that of all.
use mathlib.Core.Path.{◌≡◌, ap, ◌∙◌}
use Rattle.ruler.specs.Made.{scale}
use Rattle.layout.specs.Words.{trip_at, partitions_holding}
use Rattle.layout.proofs.MostPartitions.{deepest_most}
use Rattle.layout.proofs.RulerCells.{deep-ruler}
use Rattle.store.proofs.RowSums.{sum_turn, sum_end}
use native.Mathlib.Omega.{arith}
use Rattle.store.proofs.counting.entries_of_all.Goals as goal

pub partitions_holding-requires : goal.partitions_holding-requires
partitions_holding-requires c = rw c.trip_at.ensures (c.requires.fit c.loop-k.k (omega arith))

pub loop-k-preserved : goal.loop-k-preserved
loop-k-preserved c =
    let k = c.loop-k in
    let f = partitions_holding (scale c.args.ruler) in
    let one : c.partitions_holding.result ≡ f (trip_at c.args.part.now k.k) =
    c.partitions_holding.ensures ∙ ap f c.trip_at.ensures in (
      omega (
        arith,
        c.partitions_holding.ensures,
        deepest_most (scale c.args.ruler) c.trip_at.result
            (deep-ruler c.args.ruler),
      ),
      rw one (sum_turn f c.args.part.now k.k k.sum (omega arith)) ∙ k.invariant.1,
    )

pub returns : goal.returns
returns c =
    let k = c.loop-k in
    omega (arith, k.invariant.1, sum_end (partitions_holding (scale c.args.ruler)) c.args.part.now k.k (omega arith))
