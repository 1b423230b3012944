-- The count, the ids and a newline, one after another.
use Rattle.dialogue.specs.Reply.{as_line, list_bytes, id_bytes}
use mathlib.Core.Path.{◌≡◌, ap, ◌∙◌}
use mathlib.Core.List.{[], ◌∷◌, append_assoc}
use lib.ListN.{length}
use lib.Seq.{length-sets}
use Rattle.text.specs.Bytes.{newline}
use Rattle.text.specs.Decimal.{decimal}
use Rattle.text.proofs.Writing.{ten_digits}
use Rattle.dialogue.proofs.Replies.{three_puts}
use native.Mathlib.Omega.{arith}
use Rattle.dialogue.proofs.reply.put_list.Goals as goal

pub put_ids-list-requires : goal.put_ids-list-requires
put_ids-list-requires c =
    let n = c.put_number-count.ensures in
    let few = ten_digits (length c.args.ids.now) (omega arith) in
    let long : length c.put_number-count.new.reply
    ≡ length c.args.reply.now = ap length n.1 ∙ simp length-sets in
    omega (arith, n.0)

pub put-requires : goal.put-requires
put-requires c =
    let n = c.put_number-count.ensures in
    let l = c.put_ids-list.ensures in
    let few = ten_digits (length c.args.ids.now) (omega arith) in
    let long : length c.put_ids-list.new.reply ≡ length c.args.reply.now = ap length
    l.1.1 ∙ simp length-sets (ap length n.1 ∙ simp length-sets) in
    omega (arith, n.0, l.0)

pub returns : goal.returns
unfolding as_line list_bytes
returns c =
    let ids = c.args.ids.now in
    let l = c.put_ids-list.ensures in
    let three = three_puts c.args.reply.now (decimal (length ids)) (id_bytes ids) (newline ∷ [])
    c.put_number-count.ensures l.1 c.put.ensures in
    let whole = rw (← append_assoc (decimal (length ids)) (id_bytes ids) (newline ∷ [])) at three in
    let n = c.put_number-count.ensures in
    let few = ten_digits (length ids) (omega arith) in
    (whole.0, whole.1, omega (arith, c.put.ensures.0, l.0, n.0))
