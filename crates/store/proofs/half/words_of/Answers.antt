-- Whole entries before the end.
use Prim.Native.Nat.{◌-◌}
use lib.ListN.{length}
use Rattle.store.specs.Halves.{total}
use native.Mathlib.Omega.{arith}
use Rattle.store.proofs.half.words_of.Goals as goal

pub overflow_mul-result : goal.overflow_mul-result
unfolding total
overflow_mul-result c = omega (arith, c.type_inv.dir (length c.args.dir.now - 1))
