-- Where the numbers are in bounds, the ruler keeps what they say.
use mathlib.Core.Path.{sym, ◌∙◌}
use Rattle.ruler.proofs.RulerMade.{judge_bad, ruler_is}
use Rattle.ruler.proofs.Ruler.new.Goals as goal

pub returns-then-not-in_bounds : goal.returns-then-not-in_bounds
returns-then-not-in_bounds c = sym (judge_bad c.args.numbers (sym c.in_bounds.ensures ∙ c.if-not-in_bounds.true))

pub returns : goal.returns
returns c = sym (ruler_is _)
