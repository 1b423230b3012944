-- What is written and the rest of the walk are the whole walk.
use Prim.Native.Nat.{◌≤◌, ◌<◌}
use borrow.Author.Tests.{leb-true, leb-false}
use Rattle.store.proofs.Walking.{going_start, going_none, going_turn, going_end}
use native.Mathlib.Omega.{arith}
use Rattle.store.proofs.places.slots_of.Goals as goal

pub loop-half-init : goal.loop-half-init
loop-half-init c =
    let p = c.requires in
    rw c.next-hi.ensures (going_start c.args.half c.args.a c.args.b c.args.spots.now p.0 p.1 p.3 p.4)

pub returns-then-no_later : goal.returns-then-no_later
returns-then-no_later c =
    let k = c.loop-half in
    let none : k.hi.1 ≤ k.lo.1 = leb-true _ _ (rw c.no_later.ensures at c.if-no_later.true) in
    going_none k.invariant none

pub returns-then-level-eq0 : goal.returns-then-level-eq0
returns-then-level-eq0 c =
    let k = c.loop-half in
    let some : k.lo.1 < k.hi.1 = leb-false _ _ (rw c.no_later.ensures at c.if-no_later.false) in
    going_end k.invariant _ _ some c.visited_at-n.ensures (omega (arith, c.level.ensures))

pub loop-half-preserved : goal.loop-half-preserved
loop-half-preserved c =
    let k = c.loop-half in
    let some : k.lo.1 < k.hi.1 = leb-false _ _ (rw c.no_later.ensures at c.if-no_later.false) in
    rw (c.above-last.ensures, c.above-first.ensures, c.above-hi.ensures, c.above-lo.ensures, c.next.ensures)
    (going_turn k.invariant _ _ some c.visited_at-n.ensures (omega (arith, c.level.ensures)))
