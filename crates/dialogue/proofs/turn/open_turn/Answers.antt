-- The front of the directory is built and put back, and the outcome is written.
use mathlib.Core.Path.{refl, ◌∙◌}
use Rattle.layout.proofs.Links.{is_ok_lem}
use Rattle.dialogue.proofs.SessionTurns.{in_front, opened_done}
use Rattle.dialogue.proofs.turn.open_turn.Goals as goal

pub slice_bounds-build-end-2 : goal.slice_bounds-build-end-2
slice_bounds-build-end-2 c =
    in_front c.args.numbers c.args.directory.now c.directory_words-n.ensures c.requires.0 c.requires.1.0

pub returns : goal.returns
returns c =
    let a = c.args in
    let n = c.directory_words-n in
    λ l. rw c.then_some.ensures (opened_done a.numbers a.directory.now a.originals.now a.replicas.now n.result n.ensures c.requires.0 c.requires.1.0
    l c.build-outcome.ensures refl
    c.directory-1.given.0 (c.is_ok-accepted.ensures.value ∙ is_ok_lem _)
    c.put_outcome-written.ensures)
