-- So many shares, in whole cells.
use native.Mathlib.Omega.{arith}
use Rattle.ruler.proofs.Shares.{from_first, in_word, cell-is, small_cell}
use Rattle.ruler.proofs.Ruler.bottom_cell.Goals as goal

pub overflow_sub-shares : goal.overflow_sub-shares
overflow_sub-shares c = omega (arith, from_first c.args.self c.args.t c.requires)

pub overflow_mul-shares : goal.overflow_mul-shares
overflow_mul-shares c = omega (arith, in_word c.args.self c.args.t c.requires)

pub overflow_cast-result-2 : goal.overflow_cast-result-2
overflow_cast-result-2 c =
    omega (arith, cell-is c.args.self c.args.t c.requires, small_cell c.args.self c.args.t c.requires)

pub returns : goal.returns
returns c = rw (c.bottom.ensures, ← cell-is c.args.self c.args.t c.requires)
