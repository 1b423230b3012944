-- The count is that of the matches among the entries passed.
use mathlib.Core.Path.{◌≡◌}
use lib.ListN.{length}
use Rattle.plan.specs.Sought.{is_sought}
use Rattle.walk.proofs.PartTurns.{found}
use Rattle.walk.proofs.count.count_part.Given as goal

abbrev pub invariant-loop-i : goal.invariant-loop-i
invariant-loop-i l = l.count ≡ length (found (is_sought l.sought l.sure) l.part l.i)
