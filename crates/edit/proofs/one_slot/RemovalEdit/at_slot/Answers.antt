-- The place found is the trip's in the slot's order, and its entry is there.
use Rattle.edit.proofs.OneSlot.{there_at}
use Rattle.edit.proofs.one_slot.RemovalEdit.at_slot.Goals as goal

pub remove-requires : goal.remove-requires
remove-requires c =
    let a = c.args in
    let e = c.place_in-pos.ensures c.requires.0 c.requires.1.orderly in
    (c.requires.0, rw e (there_at a.dir.now a.arena.now c.requires.0 a.half a.slot a.t c.requires.1))

pub returns : goal.returns
returns c = λ ls v.
    let a = c.args in
    let e = c.place_in-pos.ensures ls v.orderly in
    rw (← e) (c.remove.ensures ls (rw e (there_at a.dir.now a.arena.now ls a.half a.slot a.t v)))
