-- What the test says makes the part one of the arena.
use mathlib.Core.Path.{sym, ◌∙◌}
use Rattle.store.specs.Parts.{part_in}
use Rattle.store.proofs.part.part_between.Goals as goal

pub returns-then-part_inside : goal.returns-then-part_inside
unfolding part_in
returns-then-part_inside c = rw (sym c.part_inside.ensures ∙ c.if-part_inside.true) c.part_there.ensures

pub returns : goal.returns
unfolding part_in
returns c = rw (sym c.part_inside.ensures ∙ c.if-part_inside.false)
