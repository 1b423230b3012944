-- One digit more is twice as many.
use native.Mathlib.Nat.{two-pow-succ}
use native.Mathlib.Numerals.{add-one}
use native.Mathlib.Omega.{arith}
use Rattle.ruler.proofs.Cell.levels_spanned.Goals as goal

pub returns : goal.returns
returns c = rw (add-one c.ilog2.result) (c.ilog2.ensures.power_le, omega (arith, two-pow-succ c.ilog2.result, c.ilog2.ensures.next_power_gt))
