-- The rows passed their tests, so those left decide.
use mathlib.Core.Path.{◌≡◌}
use mathlib.Core.List.{[]}
use lib.ListN.{drop}
use Rattle.ruler.specs.Made.{scale}
use Rattle.layout.specs.Outcomes.{Accepted}
use Rattle.layout.specs.Words.{rows}
use Rattle.layout.specs.Refusals.{first_bad_row}
use Rattle.build.specs.RowsJudged.{rows_back}
use Rattle.build.proofs.rows.first_bad_row.Given as goal

abbrev pub invariant-loop-i : goal.invariant-loop-i
invariant-loop-i l =
    first_bad_row (scale l.ruler) l.i (rows_back l.table l.i) (drop l.i (rows l.table)) Accepted
    ≡ first_bad_row (scale l.ruler) 0 [] (rows l.table) Accepted
