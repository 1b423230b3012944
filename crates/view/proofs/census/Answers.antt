-- The index is opened once, and its rows read.
use mathlib.Core.Path.{◌∙◌}
use Rattle.store.specs.WordsLent.{index_of}
use Rattle.view.proofs.ViewEntries.{readable, rows-opened}
use Rattle.view.proofs.census.Goals as goal

pub rows_opened-requires : goal.rows_opened-requires
rows_opened-requires c =
    let a = c.args in
    readable a.numbers (index_of a.words) c.open-opened.ensures

pub returns : goal.returns
returns c =
    let a = c.args in
    let x = index_of a.words in
    c.rows_opened.ensures ∙ rows-opened a.numbers x _ c.open-opened.ensures
