-- The part between the two words of the directory has the slot's rows, which are in order.
use Rattle.edit.proofs.OneSlot.{slot-there, part_ordered, part_place}
use native.Mathlib.Omega.{arith}
use Rattle.edit.proofs.one_slot.place_in.Goals as goal

pub overflow_add-slot : goal.overflow_add-slot
overflow_add-slot c = omega (arith, slot-there c.args.dir.now c.args.arena.now c.requires.0 c.args.half c.args.slot c.requires.1)

pub part_between-requires : goal.part_between-requires
part_between-requires c = omega (arith, slot-there c.args.dir.now c.args.arena.now c.requires.0 c.args.half c.args.slot c.requires.1)

pub find_place-requires : goal.find_place-requires
find_place-requires c =
    part_ordered c.args.dir.now c.args.arena.now c.requires.0 c.args.half c.args.slot c.requires.1
    c.part_between.ensures c.subdivision_of.result c.subdivision_of.ensures

pub returns : goal.returns
returns c = λ ls o.
    let a = c.args in
    part_place a.dir.now a.arena.now ls a.half a.slot o c.part_between.ensures
    c.subdivision_of.result a.t c.find_place.result c.subdivision_of.ensures c.find_place.ensures
