-- The total is that of the slots passed.
use mathlib.Core.Path.{◌≡◌}
use Rattle.view.specs.Directory.{every_second}
use Rattle.view.proofs.counts.every_second.Given as goal

abbrev pub invariant-loop-i : goal.invariant-loop-i
invariant-loop-i l = l.total ≡ every_second l.directory l.from l.i
