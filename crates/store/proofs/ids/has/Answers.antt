-- Some word so far is the id, or one that is left.
use mathlib.Core.Path.{sym, ◌∙◌}
use native.Mathlib.Omega.{arith}
use Rattle.store.proofs.Marks.{among_next, among_end}
use Rattle.store.proofs.ids.has.Goals as goal

pub loop-word-preserved : goal.loop-word-preserved
loop-word-preserved c =
    let args = c.args in
    among_next c.loop-word.found args.id args.words.now c.loop-word.word-index (omega arith) ∙ c.loop-word.invariant

pub returns : goal.returns
returns c =
    let args = c.args in
    sym (among_end c.loop-word.found args.id args.words.now c.loop-word.word-index (omega arith)) ∙ c.loop-word.invariant
