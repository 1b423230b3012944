-- The outcome of the entry, in numbers.
use Rattle.export.specs.Said.{said_of, check_said}
use mathlib.Core.Path.{ap, ◌∙◌}
use Rattle.export.proofs.kheyambo_check.Goals as goal

pub returns : goal.returns
unfolding check_said
returns c = c.from-2.ensures ∙ ap said_of (rw c.from.ensures at c.check.ensures)
