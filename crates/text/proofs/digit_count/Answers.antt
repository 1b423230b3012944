-- A number below ten has one digit, and of any other the logarithm is one less than the count.
-- Assumes nothing.
use Rattle.text.proofs.Writing.{length_one, all_digits}
use native.Mathlib.Numerals.{add-one}
use native.Mathlib.Omega.{arith}
use Rattle.text.proofs.digit_count.Goals as goal

pub returns-then-n-lt-BASE : goal.returns-then-n-lt-BASE
returns-then-n-lt-BASE c = rw (length_one c.args.n c.if-n-lt-BASE.true)

pub returns-else-n-lt-BASE : goal.returns-else-n-lt-BASE
returns-else-n-lt-BASE c =
    let low = c.ilog10.ensures.power_le in
    let high = c.ilog10.ensures.next_power_gt in
    rw add-one (all_digits c.args.n c.ilog10.result (omega (arith, low, c.if-n-lt-BASE.false)) (omega (arith, high, c.if-n-lt-BASE.false)))
