-- The byte is kept where there is room.
use Rattle.feeding.specs.Feeding.{byte_kept}
use Rattle.feeding.proofs.keep_byte.Goals as goal

pub returns : goal.returns
unfolding byte_kept
returns c = (record { ruler = c.requires.ruler }, λ x l. rw c.push.ensures)
