-- The rows of the levels passed stand in front of zeros.
use mathlib.Core.Path.{◌≡◌, ◌∙◌}
use mathlib.Core.List.{[], append-nil}
use Prim.Native.Nat.{suc}
use Rattle.lists.proofs.Upto.{up_to-none, up_to-more}
use Rattle.ruler.specs.Ruler.{deepest}
use Rattle.view.specs.Directory.{rows_of}
use native.Mathlib.Omega.{arith}
use Rattle.view.proofs.counts.level_rows.Goals as goal

pub loop-level-init : goal.loop-level-init
loop-level-init c = up_to-none _ _

pub loop-level-preserved : goal.loop-level-preserved
loop-level-preserved c = up_to-more _ _ _ _ _ [] (omega arith) c.level_row.ensures c.loop-level.invariant

pub returns : goal.returns
unfolding rows_of
returns c = let e : c.loop-level.level ≡ suc deepest = omega arith in (rw e at c.loop-level.invariant) ∙ append-nil _
