-- The outcome of the opening in numbers, and the counts of what was opened.
use mathlib.Core.Path.{ap, ◌∙◌}
use Rattle.layout.specs.Calls.{index}
use Rattle.verify.specs.Opening.{outcome_of}
use Rattle.verify.proofs.Opening.{told}
use Rattle.view.proofs.ViewEntries.{readable, rows-opened}
use Rattle.export.specs.Said.{numbers_named, said_of, check_said, census_said}
use Rattle.export.proofs.Thin.{counted_so}
use Rattle.export.proofs.kheyambo_census.Goals as goal

pub rows_opened-rows-requires : goal.rows_opened-rows-requires
rows_opened-rows-requires c =
    let a = c.args in
    let x = index a.directory.now a.originals.now a.replicas.now in
    readable c.from.result x c.open-opened.ensures

pub returns : goal.returns
unfolding census_said check_said
returns c =
    let a = c.args in
    let x = index a.directory.now a.originals.now a.replicas.now in
    let n = numbers_named a.ruler in
    let opened = rw c.from.ensures at c.open-opened.ensures in
    counted_so (c.from-2.ensures ∙ ap said_of (c.outcome_of.ensures ∙ ap outcome_of opened ∙ told n x))
    (c.rows_opened-rows.ensures ∙ rows-opened n x _ opened)
