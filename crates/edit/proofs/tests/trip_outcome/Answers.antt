-- The id is looked for among those that are there, and the tests are those of the trip.
use mathlib.Core.Path.{ap, ◌∙◌}
use mathlib.Core.Bool.{Bool}
use Rattle.ruler.specs.Made.{scale}
use Rattle.layout.specs.Outcomes.{Accepted}
use Rattle.layout.specs.Words.{rows}
use Rattle.layout.specs.Refusals.{row_tests_by, row_tests}
use Rattle.edit.proofs.IndexRead.{found-taken}
use Rattle.edit.proofs.tests.trip_outcome.Goals as goal

pub returns : goal.returns
unfolding row_tests
returns c =
    let a = c.args in
    c.row_outcome.ensures ∙ ap (λ (taken : Bool). row_tests_by (scale a.ruler) taken a.t 0 Accepted)
    (c.is_some-taken.ensures ∙ found-taken a.t.id (rows a.there.now) _ c.find_id.ensures)
