-- The trips left stand in a row after the last one met exactly if all of them stand in a row. The order is that of their keys.
use Rattle.ruler.specs.Made.{scale}
use Rattle.verify.specs.Frames.{stands_in}
use Rattle.verify.proofs.LoopTurns.{Met}
use Rattle.verify.proofs.half.in_row.Given as goal

abbrev pub invariant-loop-k : goal.invariant-loop-k
invariant-loop-k l = Met l.part (stands_in (scale l.ruler) l.frame) l.by l.last l.k
