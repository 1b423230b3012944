-- The sum so far, with that of the rows left, is that of all.
use mathlib.Core.Path.{◌≡◌}
use Prim.Native.Nat.{◌+◌, ◌*◌, ◌≤◌}
use lib.ListN.{drop}
use Rattle.lists.specs.Lists.{sum_over}
use Rattle.ruler.specs.Ruler.{deepest}
use Rattle.ruler.specs.Made.{scale}
use Rattle.layout.specs.Stored.{most_partitions}
use Rattle.layout.specs.Words.{rows, partitions_holding}
use Rattle.store.proofs.counting.entries_of_all.Given as goal

abbrev pub invariant-loop-k : goal.invariant-loop-k
invariant-loop-k l =
    (l.sum ≤ most_partitions deepest * l.k)
    × (l.sum + sum_over (partitions_holding (scale l.ruler)) (drop l.k (rows l.part)) ≡ sum_over (partitions_holding (scale l.ruler)) (rows l.part))
