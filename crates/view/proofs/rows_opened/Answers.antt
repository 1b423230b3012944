-- By cases: the rows of the directory, or zeros.
use mathlib.Core.Path.{sym, ap, ◌∙◌}
use Rattle.layout.specs.Calls.{no_census}
use Rattle.view.specs.Directory.{rows_of}
use Rattle.view.specs.Views.{rows_opened}
use Rattle.view.proofs.rows_opened.Goals as goal

pub level_rows-requires : goal.level_rows-requires
level_rows-requires c =
    rw c.bottom.ensures (c.requires.halves c.in-Ok.ruler c.in-Ok.is)

pub returns-in-Ok : goal.returns-in-Ok
unfolding rows_opened
returns-in-Ok c =
    let a = c.args in
    c.level_rows.ensures ∙ ap (rows_of a.directory.now) c.bottom.ensures
    ∙ sym (ap (λ o. rows_opened o a.directory.now) c.in-Ok.is)

pub returns-in-Err : goal.returns-in-Err
unfolding rows_opened no_census
returns-in-Err c = rw c.in-Err.is
