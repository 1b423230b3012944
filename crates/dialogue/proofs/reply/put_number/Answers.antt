-- The number has room in the reply's part, which is put back at its place.
use Rattle.text.proofs.Writing.{ten_digits}
use Rattle.dialogue.proofs.Replies.{number_put}
use native.Mathlib.Omega.{arith}
use Rattle.dialogue.proofs.reply.put_number.Goals as goal

pub overflow_add-result : goal.overflow_add-result
overflow_add-result c =
    let a = c.args in
    let few = ten_digits a.n (omega arith) in
    let wrote = number_put a.reply.now a.at a.n (omega arith) (omega arith) c.write_number.ensures in
    omega (arith, wrote.0)

pub returns : goal.returns
returns c =
    let a = c.args in
    let wrote = number_put a.reply.now a.at a.n (omega arith) (omega arith) c.write_number.ensures in
    (rw wrote.0, wrote.1)
