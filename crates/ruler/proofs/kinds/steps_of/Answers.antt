-- By its kind: m is at most 10.
use native.Mathlib.Omega.{arith}
use Rattle.ruler.proofs.Fair.{bits_of, spread_of}
use Rattle.ruler.proofs.kinds.steps_of.Goals as goal

pub power-requires : goal.power-requires
power-requires c = omega (arith, (bits_of c.in-Bits.is c.requires).deep)

pub power-requires-in-Spread : goal.power-requires-in-Spread
power-requires-in-Spread c = omega (arith, (spread_of c.in-Spread.is c.requires).deep)
