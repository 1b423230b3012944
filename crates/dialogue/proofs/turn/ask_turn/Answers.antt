-- The front of the directory is asked, and the ids or the refusal are written.
use Rattle.dialogue.proofs.SessionTurns.{in_front, answered_done, count-within}
use Rattle.layout.specs.Calls.{Asked, ask_of}
use Rattle.layout.specs.Words.{Index}
use Rattle.ruler.specs.Ruler.{scale_of}
use native.Mathlib.Omega.{arith}
use Rattle.dialogue.proofs.turn.ask_turn.Goals as goal

pub slice_bounds-words-end : goal.slice_bounds-words-end
slice_bounds-words-end c =
    in_front c.args.numbers c.args.directory.now c.directory_words-n.ensures c.requires.0 c.requires.1.0

pub put_answer-written-requires : goal.put_answer-written-requires
put_answer-written-requires c =
    let a = c.args in
    let kept = c.answers-1.given in
    let within = count-within (scale_of a.numbers) _ a.asking a.answers.now c.ask-answer.ensures kept in
    record { listed = within; room = (omega (arith, within, kept), omega (arith, within, kept)) }

pub returns : goal.returns
returns c =
    let a = c.args in
    let n = c.directory_words-n in
    let call : Index → Asked = λ x. ask_of (scale_of a.numbers) x a.asking a.answers.now in
    rw c.goes_on.ensures (answered_done a.numbers a.directory.now a.originals.now a.replicas.now n.result n.ensures
    a.answers.now call c.ask-answer.ensures
    c.put_answer-written.ensures)
