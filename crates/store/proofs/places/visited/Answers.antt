-- The tests of the code, one after the other, are that of `visit`.
use borrow.Author.Tests.{not-true, not-false}
use Rattle.store.specs.TripWalk.{visit}
use native.Mathlib.Omega.{arith}
use Rattle.store.proofs.places.visited.Goals as goal

pub returns-then-not-test : goal.returns-then-not-test
unfolding visit
returns-then-not-test c = let e = not-true c.args.test c.if-not-test.true-raw in record { many = rw e (omega arith); words = rw e }

pub returns-then-is_of : goal.returns-then-is_of
unfolding visit
returns-then-is_of c =
    let test = not-false c.args.test c.if-not-test.false-raw in
    let e = rw (c.is_of.ensures, c.same.ensures) at c.if-is_of.true in
    record { many = rw (test, e); words = rw (test, e, c.slot_number.ensures, c.same-then-is_of.ensures) }

pub returns : goal.returns
unfolding visit
returns c =
    let test = not-false c.args.test c.if-not-test.false-raw in
    let e = rw (c.is_of.ensures, c.same.ensures) at c.if-is_of.false in
    record { many = rw (test, e) (omega arith); words = rw (test, e) }
