-- A mark is read and set in its word.
use mathlib.Core.Path.{refl}
use Prim.Native.Nat.{◌%◌}
use native.Mathlib.Omega.{arith}
use Rattle.ruler.proofs.Shift.{one_shl}
use Rattle.store.specs.Marks.{word_bits, marked, with_mark}
use Rattle.store.proofs.ids.set_mark.Goals as goal

pub returns : goal.returns
unfolding marked with_mark
returns c = (refl, rw (one_shl (c.args.mark % word_bits) (omega arith)))
