-- The bit above ends the count of the number's own zeros.
use Rattle.ruler.proofs.Zeros.{zeros_ended}
use native.Mathlib.Omega.{arith}
use Rattle.ruler.proofs.Cell.levels_begun.Goals as goal

pub returns : goal.returns
returns c = rw c.power.ensures (zeros_ended c.args.self.0 32 c.args.self.1 (omega arith) c.requires.1)
