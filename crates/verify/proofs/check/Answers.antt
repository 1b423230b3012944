-- The outcome that is told is the check's.
use mathlib.Core.Path.{ap, ◌∙◌}
use Rattle.verify.specs.Opening.{outcome_of}
use Rattle.verify.proofs.Opening.{told}
use Rattle.verify.proofs.check.Goals as goal

pub returns : goal.returns
returns c = c.outcome_of.ensures ∙ ap outcome_of c.open.ensures ∙ told _ _
