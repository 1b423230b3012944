-- Nothing is held.
use Rattle.dialogue.specs.Session.{start}
use Rattle.feeding.proofs.begin.Goals as goal

pub returns : goal.returns
unfolding start
returns c = (record { ruler = tt }, λ x l. rw c.new.ensures)
