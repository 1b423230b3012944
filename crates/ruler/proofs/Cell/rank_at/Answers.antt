-- The number of all cells of its level, shifted with its own number, is that of all cells of the level above.
use lib.Pow.{pow_pos}
use Rattle.ruler.proofs.CellLevels.{up_all}
use native.Mathlib.Omega.{arith}
use Rattle.ruler.proofs.Cell.rank_at.Goals as goal

pub overflow_sub-result-2 : goal.overflow_sub-result-2
overflow_sub-result-2 c =
    rw (c.power.ensures, up_all c.args.self.0 c.args.level c.args.self.1 c.requires.0) (omega (arith, pow_pos c.args.level))

pub returns : goal.returns
returns c =
    rw (c.power.ensures, up_all c.args.self.0 c.args.level c.args.self.1 c.requires.0) (omega (arith, pow_pos c.args.level))
