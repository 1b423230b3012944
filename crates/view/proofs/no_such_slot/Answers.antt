-- A level past m ends the tests before 2 ^ level is made.
use Rattle.layout.proofs.RulerCells.{deep-ruler}
use native.Mathlib.Omega.{arith}
use Rattle.view.proofs.no_such_slot.Goals as goal

pub power-requires : goal.power-requires
power-requires c = omega (arith, c.bottom.ensures, deep-ruler c.args.ruler)
