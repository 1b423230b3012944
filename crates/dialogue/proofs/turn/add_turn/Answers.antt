-- The front of the directory is edited and put back, and the outcome is written.
use Rattle.dialogue.proofs.SessionTurns.{in_front, edited_done}
use Rattle.layout.specs.Calls.{After, add_of}
use Rattle.layout.specs.Words.{Index}
use Rattle.ruler.specs.Ruler.{scale_of}
use Rattle.dialogue.proofs.turn.add_turn.Goals as goal

pub slice_bounds-add-end : goal.slice_bounds-add-end
slice_bounds-add-end c =
    in_front c.args.numbers c.args.directory.now c.directory_words-n.ensures c.requires.0 c.requires.1.0

pub returns : goal.returns
returns c =
    let a = c.args in
    let n = c.directory_words-n in
    let made = c.add-outcome in
    let call : Index → After = λ x. add_of (scale_of a.numbers) x a.t in
    λ l. rw c.goes_on.ensures (edited_done a.numbers a.directory.now a.originals.now a.replicas.now n.result
    n.ensures c.requires.0 c.requires.1.0
    l call made.ensures c.directory-1.given.0
    c.put_outcome-written.ensures)
