-- `text::write_number` meets its contract: the number of digits decides which case of `written_of` holds.
-- Assumes nothing.
use mathlib.Core.Path.{sym}
use native.Mathlib.Omega.{arith}
use Rattle.text.proofs.Writing.{fits-front, no_room}
use Rattle.text.proofs.write_number.Goals as goal

pub returns-then-out-count : goal.returns-then-out-count
returns-then-out-count c = sym (no_room _ _ (omega arith))

pub returns : goal.returns
returns c =
    let a = c.args in
    rw (c.put_digits.ensures, c.digit_count-count.ensures, fits-front a.n a.out.now (omega arith))
