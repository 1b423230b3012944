-- Between two words of the directory.
use mathlib.Core.Path.{refl}
use Prim.Native.Nat.{◌+◌}
use Rattle.view.specs.Views.{slot_place}
use native.Mathlib.Omega.{arith}
use Rattle.view.proofs.slot_place.Goals as goal

pub overflow_cast-from : goal.overflow_cast-from
overflow_cast-from c = omega (arith, c.type_inv.directory c.args.at)

pub overflow_mul-from : goal.overflow_mul-from
overflow_mul-from c = omega (arith, c.type_inv.directory c.args.at)

pub overflow_cast-to : goal.overflow_cast-to
overflow_cast-to c = omega (arith, c.type_inv.directory (c.args.at + 1))

pub overflow_mul-to : goal.overflow_mul-to
overflow_mul-to c = omega (arith, c.type_inv.directory (c.args.at + 1))

pub returns : goal.returns
unfolding slot_place
returns c = refl
