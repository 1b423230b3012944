-- In each class before this one the ids differ.
use mathlib.Core.Path.{sym, ap, ◌∙◌}
use native.Mathlib.Omega.{arith}
use Rattle.layout.specs.Words.{rows}
use Rattle.store.specs.Entries.{ids}
use Rattle.store.specs.Ids.{climbs, ids_differ}
use Rattle.store.proofs.Differing.{every_id, climbs-differ}
use Rattle.store.proofs.Classes.{class_stop, classes_end}
use Rattle.store.proofs.ids.ids_differ.Goals as goal

pub returns-then-climb : goal.returns-then-climb
unfolding ids_differ
returns-then-climb c =
    let part = c.args.part.now in
    sym (climbs-differ (ids (rows part)) (ap climbs (sym (every_id part)) ∙ sym c.climb.ensures ∙ c.if-climb.true))

pub returns-then-not-differs : goal.returns-then-not-differs
returns-then-not-differs c =
    let part = c.args.part.now in
    sym (class_stop _ (rows part) _ (sym c.differs.ensures ∙ c.if-not-differs.true))

pub returns : goal.returns
returns c = sym (classes_end _ (rows c.args.part.now) (omega arith) (λ k h. c.loop-class.invariant.1 k (omega arith)))
