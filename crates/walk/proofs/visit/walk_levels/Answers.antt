-- The matches of the levels passed are taken.
use mathlib.Core.Path.{◌≡◌, ap, ◌∙◌}
use mathlib.Core.Bool.{Bool}
use mathlib.Core.List.{List}
use Prim.Native.Nat.{ℕ, ◌+◌, ◌-◌, ◌≤◌, ◌<◌}
use Rattle.trip.specs.declared.Trip.{Trip}
use Rattle.plan.specs.declared.range.Plan.{Plan}
use Rattle.plan.specs.declared.stretches.Stretches.{Stretches}
use Rattle.plan.specs.Sought.{is_sought}
use Rattle.plan.specs.Plan.{stretches_at}
use Rattle.walk.specs.Levels.{level_matches, level_up}
use Rattle.walk.proofs.Visits.{none_taken, turn_can, turn_took}
use native.Mathlib.Omega.{arith}
use Rattle.walk.proofs.visit.walk_levels.Goals as goal

-- the level below as many as are left is the one so far up
at_level : (t : Bool → Trip → Bool) (d o r : List ℕ) (p : Plan) {s : Stretches} {left : ℕ} → 0 < left → left ≤ p.low.0 + 1
    → s ≡ stretches_at p (left - 1) → level_matches t d o r s ≡ level_up t d o r p (p.low.0 + 1 - left)
at_level t d o r p {s} {left} h k f =
    let same : left - 1 ≡ p.low.0 - (p.low.0 + 1 - left) = omega arith in
    ap (level_matches t d o r) (f ∙ ap (stretches_at p) same)

pub loop-level-init : goal.loop-level-init
loop-level-init g c = none_taken g.V.Visitor.Took g.met.V.Visitor.none _ (c.args.plan.low.0 + 1) _ (omega arith)

pub walk_level-requires-clause-can_take : goal.walk_level-requires-clause-can_take
walk_level-requires-clause-can_take g c =
    let a = c.args in
    let v = g.met.V.Visitor in
    let f = level_up (is_sought a.sought) a.words.directory.now a.words.originals.now a.words.replicas.now a.plan in
    turn_can g.V.Visitor.CanTake g.V.Visitor.Took v.more v.first v.rest f (a.plan.low.0 + 1 - c.loop-level.level) (a.plan.low.0 + 1) (omega arith)
    c.requires.can_take c.loop-level.invariant (at_level _ _ _ _ a.plan c.loop-level-test.true (omega arith) c.stretches_at.ensures)

pub loop-level-preserved : goal.loop-level-preserved
loop-level-preserved g c =
    let a = c.args in
    let v = g.met.V.Visitor in
    let f = level_up (is_sought a.sought) a.words.directory.now a.words.originals.now a.words.replicas.now a.plan in
    let up = a.plan.low.0 + 1 - c.loop-level.level in
    let next : a.plan.low.0 + 1 - (c.loop-level.level - 1) ≡ up + 1 = omega arith in
    rw next (turn_took g.V.Visitor.CanTake g.V.Visitor.Took v.more v.first v.rest f up (a.plan.low.0 + 1) (omega arith)
    c.requires.can_take c.loop-level.invariant (at_level _ _ _ _ a.plan c.loop-level-test.true (omega arith) c.stretches_at.ensures)
    c.walk_level.ensures)
