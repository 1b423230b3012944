-- The places where the id may stand are halved until one is left.
use native.Mathlib.Omega.{arith}
use borrow.Author.Rules.{rules}
use Rattle.store.proofs.Classes.{narrow_step, narrow_end}
use Rattle.store.proofs.ids.holds.Goals as goal

pub loop-width-preserved : goal.loop-width-preserved
loop-width-preserved c =
    let args = c.args in
    rw c.passed-low.ensures (narrow_step args.id args.room.now c.loop-width.low c.loop-width.width c.loop-width.invariant (search rules) (omega arith))

pub returns : goal.returns
returns c = narrow_end _ _ _ _ c.loop-width.invariant (omega arith)
