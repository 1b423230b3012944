-- An empty slot passes; the part of another is that between the slot's word and the next.
use mathlib.Core.Path.{sym}
use Rattle.layout.proofs.RulerCells.{deep-ruler, fair_ruler}
use Rattle.verify.specs.Local.{slot_at}
use Rattle.verify.proofs.SlotLevels.{part_count, slot_empty}
use Rattle.verify.proofs.Framed.{frame_at, slot_framed}
use native.Mathlib.Omega.{arith}
use Rattle.verify.proofs.half.slot_at.Goals as goal

pub returns-then-from-to : goal.returns-then-from-to
returns-then-from-to c =
    let g = c.args in
    sym (slot_empty _ g.half _ g.words.arena.now g.k c.if-from-to.true)

pub frame_of-frame-requires : goal.frame_of-frame-requires
frame_of-frame-requires c =
    rw c.bottom.ensures (deep-ruler c.args.ruler, c.requires.partition_bound.0, c.requires.partition_bound.1)

pub in_row-requires-clause-frame_at : goal.in_row-requires-clause-frame_at
in_row-requires-clause-frame_at c = rw (c.frame_of-frame.ensures, c.bottom.ensures) (frame_at _ _ _ _ _)

pub in_row-requires-clause-counted : goal.in_row-requires-clause-counted
in_row-requires-clause-counted c =
    let there = c.requires.part_there in
    rw c.part_there.ensures (sym (part_count _ _ c.args.k there), omega (arith, there.rises, c.if-from-to.false))

pub returns : goal.returns
unfolding slot_at
returns c =
    let p = c.args.partition in
    let at = c.requires.partition_bound in
    rw (
      c.in_row.ensures,
      c.part_there.ensures,
      c.subdivision_of-d.ensures,
      c.frame_of-frame.ensures,
      c.bottom.ensures,
    )
    (slot_framed _ (fair_ruler c.args.ruler) c.args.half c.args.k p.0 p.1 at.0 at.1 at.2 _)
