-- The trips left are all known exactly if all of them are.
use mathlib.Core.Path.{◌≡◌}
use lib.ListN.{drop}
use Rattle.ruler.specs.Made.{scale}
use Rattle.layout.specs.Words.{rows}
use Rattle.verify.specs.Passing.{each}
use Rattle.verify.specs.Local.{is_known}
use Rattle.verify.proofs.origin.all_known.Given as goal

abbrev pub invariant-loop-k : goal.invariant-loop-k
invariant-loop-k l =
    let p = is_known (scale l.ruler) l.originals.dir.now l.originals.arena.now in
    each p (drop l.k (rows l.part)) ≡ each p (rows l.part)
