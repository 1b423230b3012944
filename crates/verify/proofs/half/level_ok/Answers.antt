-- Every slot of the level below j passes.
use mathlib.Core.Path.{◌≡◌, sym, ◌∙◌}
use Prim.Native.Nat.{◌+◌, ◌*◌, ◌^◌}
use Rattle.ruler.specs.Made.{scale}
use Rattle.layout.specs.Words.{half_length}
use Rattle.layout.proofs.RulerCells.{deep-ruler}
use Rattle.verify.specs.Local.{first_slot, level_ok}
use Rattle.verify.proofs.LoopTurns.{below-start, below_more, below_stop}
use Rattle.verify.proofs.SlotsCut.{slot_in}
use Rattle.verify.proofs.SlotLevels.{level_in, slot_number_lem, slot_lt, level_empty}
use native.Mathlib.Omega.{arith}
use Rattle.verify.proofs.half.level_ok.Goals as goal

pub power-across-requires : goal.power-across-requires
power-across-requires c = omega (arith, deep-ruler c.args.ruler)

pub bounds-words-first : goal.bounds-words-first
bounds-words-first c = omega (arith, level_in (scale c.args.ruler).m c.args.level c.requires.level_in)

pub bounds-words-first-2 : goal.bounds-words-first-2
bounds-words-first-2 c = omega (arith, level_in (scale c.args.ruler).m c.args.level c.requires.level_in)

pub returns-then-words-first : goal.returns-then-words-first
returns-then-words-first c =
    let a = c.args in
    let same = rw c.power-across.ensures at c.if-words-first.true in
    sym (level_empty (scale a.ruler) a.half _ _ c.requires.dir_len c.requires.half_passed a.level c.requires.level_in same)

pub loop-j-init : goal.loop-j-init
loop-j-init c = below-start _

pub slot_at-requires-clause-partition_bound : goal.slot_at-requires-clause-partition_bound
slot_at-requires-clause-partition_bound c =
    rw (c.at-partition.ensures, c.power-across.ensures) (c.requires.level_in, omega arith, slot_number_lem c.args.level c.loop-j.j)

pub slot_at-requires-clause-part_there : goal.slot_at-requires-clause-part_there
unfolding half_length
slot_at-requires-clause-part_there c =
    let a = c.args in
    let here = slot_lt (scale a.ruler).m a.level c.loop-j.j c.requires.level_in (omega arith) in
    rw c.power-across.ensures (slot_in _ _ _ c.requires.dir_len c.requires.half_passed (first_slot a.level + c.loop-j.j) here)

pub returns-then-not-slot_at : goal.returns-then-not-slot_at
unfolding level_ok
returns-then-not-slot_at c =
    let fails = rw c.power-across.ensures at (sym c.slot_at.ensures ∙ c.if-not-slot_at.true) in
    sym (below_stop _ (2 * 2 ^ c.args.level) c.loop-j.j (omega arith) fails)

pub loop-j-preserved : goal.loop-j-preserved
loop-j-preserved c =
    below_more _ c.loop-j.j c.loop-j.invariant (rw c.power-across.ensures at (sym c.slot_at.ensures ∙ c.if-not-slot_at.false))

pub returns : goal.returns
unfolding level_ok
returns c =
    let end : c.loop-j.j ≡ 2 * 2 ^ c.args.level = omega arith in
    sym (rw end at c.loop-j.invariant)
