-- The entries in front are too early, those behind too late, and those between in time.
use Rattle.walk.proofs.Searched.{within-is}
use native.Mathlib.Omega.{arith}
use Rattle.walk.proofs.cut.within.Goals as goal

pub returns : goal.returns
returns g c = within-is g.at c.args.span c.args.part.now _ _ _ c.entries_before-from.ensures c.entries_before.ensures (omega arith)
