-- By its kind: 2 ^ w is at least 1.
use native.Mathlib.Omega.{arith}
use Rattle.ruler.proofs.Fair.{bits_of}
use Rattle.ruler.proofs.kinds.last_of.Goals as goal

pub power-requires : goal.power-requires
power-requires c = omega (arith, (bits_of c.in-Bits.is c.requires).wide)
