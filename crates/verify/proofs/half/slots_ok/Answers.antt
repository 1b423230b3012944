-- Every slot of the levels above `level` passes.
use mathlib.Core.Path.{sym, ◌∙◌}
use Prim.Native.Nat.{◌+◌, ◌≤◌}
use Rattle.ruler.specs.Made.{scale}
use Rattle.verify.proofs.LoopTurns.{below-start}
use Rattle.verify.proofs.SlotLevels.{level_more, level_stop, level_end}
use native.Mathlib.Omega.{arith}
use Rattle.verify.proofs.half.slots_ok.Goals as goal

pub loop-level-init : goal.loop-level-init
loop-level-init c = below-start _

pub returns-then-not-level_ok : goal.returns-then-not-level_ok
returns-then-not-level_ok c =
    let a = c.args in
    let w = a.words in
    let deep : c.loop-level.level ≤ (scale a.ruler).m = omega (arith, c.bottom-m.ensures) in
    let fails = sym c.level_ok.ensures ∙ c.if-not-level_ok.true in
    sym (level_stop (scale a.ruler) a.half w.dir.now w.arena.now c.requires.dir_len c.loop-level.level deep fails)

pub loop-level-preserved : goal.loop-level-preserved
loop-level-preserved c =
    let a = c.args in
    let k = c.loop-level in
    level_more (scale a.ruler) a.half a.words.dir.now a.words.arena.now k.level k.invariant (sym c.level_ok.ensures ∙ c.if-not-level_ok.false)

pub returns-else-not-level_ok : goal.returns-else-not-level_ok
returns-else-not-level_ok c =
    let a = c.args in
    let w = a.words in
    let L = c.loop-level.level in
    let all = level_more (scale a.ruler) a.half w.dir.now w.arena.now L c.loop-level.invariant (sym c.level_ok.ensures ∙ c.if-not-level_ok.false) in
    sym (level_end (scale a.ruler) a.half w.dir.now w.arena.now c.requires.dir_len (L + 1) (omega (arith, c.bottom-m.ensures)) all)
