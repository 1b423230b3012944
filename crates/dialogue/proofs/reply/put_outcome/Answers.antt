-- The word, the number and a newline, one after another.
use Rattle.dialogue.specs.Reply.{as_line, outcome_bytes, ok_bytes, refused_bytes}
use mathlib.Core.Path.{◌≡◌, ap, ◌∙◌}
use mathlib.Core.List.{[], ◌∷◌, ◌++◌}
use lib.ListN.{length}
use lib.Seq.{length-sets}
use Rattle.text.specs.Bytes.{space, newline}
use Rattle.text.specs.Decimal.{decimal}
use Rattle.text.proofs.Writing.{ten_digits}
use Rattle.dialogue.proofs.Replies.{three_puts}
use native.Mathlib.Omega.{arith}
use Rattle.dialogue.proofs.reply.put_outcome.Goals as goal

pub put-requires-in-Err : goal.put-requires-in-Err
put-requires-in-Err c =
    let w = c.put-word.ensures in
    let n = c.put_number-number.ensures in
    let few = ten_digits c.from.result (omega arith) in
    let long : length c.put_number-number.new.reply
    ≡ length c.args.reply.now =
    ap length n.1 ∙ simp length-sets (ap length w.1 ∙ simp length-sets) in
    omega (arith, w.0, n.0)

pub returns-in-Ok : goal.returns-in-Ok
unfolding as_line outcome_bytes ok_bytes
returns-in-Ok c = rw c.in-Ok.is
    (c.put.ensures.0, c.put.ensures.1, omega (arith, c.put.ensures.0))

pub returns-in-Err : goal.returns-in-Err
unfolding as_line outcome_bytes refused_bytes
returns-in-Err c =
    let r = c.from in
    let three = three_puts c.args.reply.now (refused_bytes ++ (space ∷ [])) (decimal r.result) (newline ∷ [])
    c.put-word.ensures c.put_number-number.ensures c.put-in-Err.ensures in
    let few = ten_digits r.result (omega arith) in
    let w = c.put-word.ensures in
    let n = c.put_number-number.ensures in
    let whole = rw r.ensures at three in
    rw c.in-Err.is (whole.0, whole.1, omega (arith, w.0, n.0, c.put-in-Err.ensures.0))
