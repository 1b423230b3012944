-- The rows passed do not have the id, so those left decide.
use mathlib.Core.Path.{◌≡◌}
use Rattle.layout.specs.Refusals.{has_id}
use Rattle.build.specs.RowsJudged.{rows_back}
use Rattle.build.proofs.rows.id_before.Given as goal

abbrev pub invariant-loop-j : goal.invariant-loop-j
invariant-loop-j l = has_id l.id (rows_back l.table l.j) ≡ has_id l.id (rows_back l.table l.i)
