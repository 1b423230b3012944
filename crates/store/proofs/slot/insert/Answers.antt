-- What the words of a half with room say makes each step safe; the gap, the trip and the counts make the slot with the trip.
use mathlib.Core.Path.{refl}
use Rattle.store.proofs.Slots.{room_words, room-inserted}
use native.Mathlib.Omega.{arith}
use Rattle.store.proofs.slot.insert.Goals as goal

pub overflow_add-next : goal.overflow_add-next
overflow_add-next c = omega (arith, room_words c.requires)

pub offset_bounds-dir-slot : goal.offset_bounds-dir-slot
offset_bounds-dir-slot c = omega (arith, room_words c.requires)

pub bounds-dir-slot : goal.bounds-dir-slot
bounds-dir-slot c = omega (arith, room_words c.requires)

pub overflow_add-at : goal.overflow_add-at
overflow_add-at c = omega (arith, room_words c.requires)

pub open_gap-requires : goal.open_gap-requires
open_gap-requires c = omega (arith, room_words c.requires)

pub put_trip-requires : goal.put_trip-requires
put_trip-requires c = omega (arith, room_words c.requires, c.open_gap.auto.arena)

pub one_more_from-requires : goal.one_more_from-requires
one_more_from-requires c = λ k h. (room_words c.requires).few k

pub returns : goal.returns
returns c = λ ls r.
    let a = c.args in
    rw (c.one_more_from.ensures, c.put_trip.ensures, c.open_gap.ensures)
    (room-inserted a.dir.now a.arena.now ls a.slot a.pos _ _ a.t r refl refl)
