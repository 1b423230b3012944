-- Where no id stands twice, none is taken.
use mathlib.Core.Path.{sym, ◌∙◌}
use Rattle.build.proofs.RowsJudged.{before-none}
use Rattle.build.proofs.rows.id_taken.Goals as goal

pub returns-then-differ : goal.returns-then-differ
returns-then-differ c =
    sym (before-none c.args.table.now c.args.i c.args.id c.requires.row_there c.requires.own_id (sym c.requires.told_apart ∙ c.if-differ.true))
