-- What is written and the ids still to be written are, together, all of them.
use Rattle.dialogue.proofs.Replies.{Putting}
use Rattle.dialogue.proofs.reply.put_ids.Given as goal

abbrev pub invariant-loop-id : goal.invariant-loop-id
invariant-loop-id l = Putting l.initial.reply l.reply l.at l.to l.ids l.id-index
