-- Every slot of the levels above `level` passes.
use mathlib.Core.Path.{◌≡◌}
use mathlib.Core.Bool.{true}
use Rattle.ruler.specs.Made.{scale}
use Rattle.verify.specs.Passing.{below}
use Rattle.verify.specs.Local.{first_slot}
use Rattle.verify.proofs.SlotLevels.{passes}
use Rattle.verify.proofs.half.slots_ok.Given as goal

abbrev pub invariant-loop-level : goal.invariant-loop-level
invariant-loop-level l = below (passes (scale l.ruler) l.half l.words.dir.now l.words.arena.now) (first_slot l.level) ≡ true
