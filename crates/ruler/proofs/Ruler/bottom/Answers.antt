-- The numbers say it.
use mathlib.Core.Path.{sym, ◌∙◌}
use Rattle.ruler.proofs.Fair.{scale_bottom}
use Rattle.ruler.proofs.Ruler.bottom.Goals as goal

pub returns : goal.returns
returns c = c.bottom.ensures ∙ sym (scale_bottom c.args.self.numbers)
