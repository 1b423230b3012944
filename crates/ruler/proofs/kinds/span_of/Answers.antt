-- By its kind: lo is below hi.
use native.Mathlib.Omega.{arith}
use Rattle.ruler.proofs.Fair.{bits_of, spread_of}
use Rattle.ruler.proofs.kinds.span_of.Goals as goal

pub power-requires : goal.power-requires
power-requires c = omega (arith, (bits_of c.in-Bits.is c.requires).wide)

pub overflow_sub-result : goal.overflow_sub-result
overflow_sub-result c = omega (arith, (spread_of c.in-Spread.is c.requires).apart)
