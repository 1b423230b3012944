-- The matches of the levels passed are taken.
use Prim.Native.Nat.{◌+◌, ◌-◌}
use Rattle.lists.specs.Lists.{joined}
use Rattle.plan.specs.Sought.{is_sought}
use Rattle.walk.specs.Levels.{level_up}
use Rattle.walk.proofs.visit.walk_levels.Given as goal

abbrev pub invariant-loop-level : goal.invariant-loop-level
invariant-loop-level g l =
    let f = level_up (is_sought l.sought) l.words.directory.now l.words.originals.now l.words.replicas.now l.plan in
    g.V.Visitor.Took l.initial.visitor (joined f (l.plan.low.0 + 1 - l.level)) l.visitor
