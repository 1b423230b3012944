-- The level of the ruler's own cells is no deeper than the deepest.
use Rattle.layout.proofs.RulerCells.{deep-ruler}
use native.Mathlib.Omega.{arith}
use Rattle.plan.proofs.range.plan_for.Goals as goal

pub power-requires : goal.power-requires
power-requires c = omega (arith, c.bottom-m.ensures, deep-ruler c.args.ruler)
