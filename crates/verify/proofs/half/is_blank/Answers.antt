-- What is left is blank and no word met is another than zero, exactly if the whole is blank.
use mathlib.Core.Path.{sym, ◌∙◌}
use Rattle.verify.proofs.LoopTurns.{blank-more, blank_end}
use native.Mathlib.Omega.{arith}
use Rattle.verify.proofs.half.is_blank.Goals as goal

pub loop-word-preserved : goal.loop-word-preserved
loop-word-preserved c =
    let k = c.loop-word in
    blank-more c.args.words.now k.word-index k.any (omega arith) ∙ k.invariant

pub returns : goal.returns
returns c =
    let k = c.loop-word in
    sym (blank_end c.args.words.now k.word-index k.any (omega arith)) ∙ k.invariant
