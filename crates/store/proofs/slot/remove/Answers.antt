-- What the words of a half with the entry say makes each step safe; the gap closed and the counts make the slot without it.
use mathlib.Core.Path.{refl}
use Rattle.store.proofs.Slots.{there_words, there-removed}
use native.Mathlib.Omega.{arith}
use Rattle.store.proofs.slot.remove.Goals as goal

pub overflow_add-next : goal.overflow_add-next
overflow_add-next c = omega (arith, there_words c.requires)

pub offset_bounds-dir-slot : goal.offset_bounds-dir-slot
offset_bounds-dir-slot c = omega (arith, there_words c.requires)

pub bounds-dir-slot : goal.bounds-dir-slot
bounds-dir-slot c = omega (arith, there_words c.requires)

pub overflow_add-gone : goal.overflow_add-gone
overflow_add-gone c = omega (arith, there_words c.requires)

pub close_gap-requires : goal.close_gap-requires
close_gap-requires c = omega (arith, there_words c.requires)

pub one_less_from-requires : goal.one_less_from-requires
one_less_from-requires c = (there_words c.requires).more

pub returns : goal.returns
returns c = λ ls r.
    let a = c.args in
    rw (c.one_less_from.ensures, c.close_gap.ensures)
    (there-removed a.dir.now a.arena.now ls a.slot a.pos _ _ r refl refl)
