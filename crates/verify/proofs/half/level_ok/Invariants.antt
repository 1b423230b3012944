-- Every slot of the level below j passes.
use mathlib.Core.Path.{◌≡◌}
use mathlib.Core.Bool.{true}
use Prim.Native.Nat.{◌+◌}
use Rattle.ruler.specs.Made.{scale}
use Rattle.verify.specs.Passing.{below}
use Rattle.verify.specs.Local.{slot_at, slot_ok, first_slot}
use Rattle.verify.proofs.half.level_ok.Given as goal

abbrev pub invariant-loop-j : goal.invariant-loop-j
invariant-loop-j l =
    let w = l.words in
    below (λ i. slot_ok (scale l.ruler) l.half (first_slot l.level + i) (slot_at w.dir.now w.arena.now (first_slot l.level + i))) l.j ≡ true
