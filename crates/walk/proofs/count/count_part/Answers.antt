-- The count is that of the matches among the entries passed.
use mathlib.Core.Path.{◌≡◌, sym, ap, ◌∙◌}
use mathlib.Core.Bool.{true, false}
use lib.ListN.{length}
use Rattle.lists.proofs.Kept.{kept_few}
use Rattle.layout.specs.Words.{trip_at}
use Rattle.plan.specs.Sought.{is_sought}
use Rattle.walk.proofs.PartTurns.{found_none, found_all, count_hit, count_miss}
use native.Mathlib.Omega.{arith}
use Rattle.walk.proofs.count.count_part.Goals as goal
use Rattle.walk.proofs.count.count_part.Goals.{then-has, else-has}

pub loop-i-init : goal.loop-i-init
loop-i-init c = sym (ap length (found_none _ _))

pub overflow_add-count : goal.overflow_add-count
overflow_add-count c = omega (
  arith,
  kept_few (is_sought c.args.sought c.args.sure)
      (trip_at c.args.part.now) c.loop-i.i,
)

pub loop-i-preserved : goal.loop-i-preserved
loop-i-preserved c =
    let g = c.args in
    let i = c.loop-i.i in
    let test = is_sought g.sought g.sure in
    let l = g.part.now in
    elim c.if-has.branch [
      | then-has w ↦ let e : test (trip_at l i) ≡ true = cc in omega (arith, count_hit test l i e)
      | else-has w ↦ let e : test (trip_at l i) ≡ false = cc in omega (arith, count_miss test l i e)
    ]

pub returns : goal.returns
returns c = c.loop-i.invariant ∙ ap length (found_all _ _ _ (omega arith))
