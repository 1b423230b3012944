-- The row is read, its id is looked for among the earlier ones, and the tests are those of its words.
use mathlib.Core.Path.{◌∙◌}
use Rattle.layout.specs.Refusals.{row_tests}
use Rattle.build.proofs.rows.outcome_at.Goals as goal

pub returns : goal.returns
unfolding row_tests
returns c =
    c.row_outcome.ensures ∙ rw (c.id_taken-taken.ensures, c.trip_at-t.ensures)
