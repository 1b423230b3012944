-- The digits of what is left, over the bytes now, are those of the number over the bytes at entry.
-- Assumes nothing.
use mathlib.Core.Path.{refl, ◌∙◌}
use native.Mathlib.Omega.{arith}
use Rattle.text.proofs.Writing.{length_more, some-digit, one_digit, some_digits, put-more, put_last}
use Rattle.text.proofs.put_digits.Goals as goal

pub loop-i-init : goal.loop-i-init
loop-i-init c = (c.requires.0, refl)

pub loop-i-preserved : goal.loop-i-preserved
loop-i-preserved c =
    let p = c.loop-i in
    let more = some_digits p.left (omega (arith, p.invariant.0)) in
    let e = length_more p.left more in
    (omega (arith, p.invariant.0), put-more p.left _ p.out (omega (arith, p.invariant.0)) (omega arith) more ∙ p.invariant.1)

pub overflow_cast-out-2 : goal.overflow_cast-out-2
overflow_cast-out-2 c = let p = c.loop-i in omega (arith, one_digit p.left (omega (arith, p.invariant.0)))

pub overflow_add-out-2 : goal.overflow_add-out-2
overflow_add-out-2 c = let p = c.loop-i in omega (arith, one_digit p.left (omega (arith, p.invariant.0)))

pub bounds-out-0 : goal.bounds-out-0
bounds-out-0 c = omega (arith, some-digit c.args.n)

pub returns : goal.returns
returns c =
    let p = c.loop-i in
    let d = some-digit p.left in
    let last = one_digit p.left (omega (arith, p.invariant.0)) in
    put_last p.left 0 p.out (omega (arith, p.invariant.0)) (omega (arith, p.invariant.0)) last ∙ p.invariant.1
