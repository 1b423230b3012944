-- What is written and the ids still to be written are, together, all of them.
use Rattle.dialogue.proofs.Replies.{putting_start, putting_turn, putting_end}
use lib.ListN.{length-set}
use native.Mathlib.Omega.{arith}
use Rattle.dialogue.proofs.reply.put_ids.Goals as goal

pub loop-id-init : goal.loop-id-init
loop-id-init c = putting_start _ _ _ (omega arith)

pub put_number-to-requires : goal.put_number-to-requires
put_number-to-requires c = simp length-set (omega (arith, c.loop-id.invariant.room, c.loop-id.invariant.long))

pub loop-id-preserved : goal.loop-id-preserved
loop-id-preserved c = putting_turn c.loop-id.invariant (omega arith)
    (omega (arith, c.type_inv.ids c.loop-id.id-index))
    c.put_number-to.ensures

pub shape_of-reply : goal.shape_of-reply
shape_of-reply c = c.loop-id.invariant.long

pub returns : goal.returns
returns c = putting_end c.loop-id.invariant (omega arith)
