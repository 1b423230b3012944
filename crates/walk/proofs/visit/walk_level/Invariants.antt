-- The matches of the looks passed are taken.
use Rattle.lists.specs.Lists.{joined}
use Rattle.plan.specs.Sought.{is_sought}
use Rattle.walk.specs.Levels.{level_look}
use Rattle.walk.proofs.visit.walk_level.Given as goal

abbrev pub invariant-loop-k : goal.invariant-loop-k
invariant-loop-k g l =
    g.V.Visitor.Took l.initial.visitor (joined (level_look (is_sought l.sought) l.words.directory.now l.words.originals.now l.words.replicas.now l.level) l.k) l.visitor
