-- The ids of an accepted question, or its refusal.
use Rattle.dialogue.specs.Reply.{answer_bytes}
use Rattle.dialogue.proofs.reply.put_answer.Goals as goal

pub returns-in-Ok : goal.returns-in-Ok
unfolding answer_bytes
returns-in-Ok c = rw c.in-Ok.is c.put_list.ensures

pub returns-in-Err : goal.returns-in-Err
unfolding answer_bytes
returns-in-Err c = rw c.in-Err.is c.put_outcome.ensures
