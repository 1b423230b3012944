-- The words before the half, then those before the slot.
use mathlib.Core.Path.{refl}
use Rattle.layout.proofs.Numbers.{halves-length, half_small}
use Rattle.view.proofs.SlotWords.{slot-fits, slot-sum}
use native.Mathlib.Omega.{arith}
use Rattle.view.proofs.slots.slot_at.Goals as goal

pub slot_number-requires : goal.slot_number-requires
slot_number-requires c = let p = c.requires in rw c.at.ensures (omega arith, omega arith)

pub overflow_add-result : goal.overflow_add-result
overflow_add-result c =
    let a = c.args in
    let half = c.half_of.ensures in
    let from = c.half_from.ensures in
    let side = c.is_aft.ensures in
    let number = rw c.at.ensures at c.slot_number.ensures in
    let e = slot-sum a.m a.level a.i a.d half from side c.slot_number.result number refl in
    omega (
      arith,
      e,
      slot-fits a.m a.level a.i a.d (omega arith) (omega arith),
      halves-length a.m,
      half_small a.m (omega arith),
    )

pub returns : goal.returns
returns c =
    let a = c.args in
    let half = c.half_of.ensures in
    let from = c.half_from.ensures in
    let side = c.is_aft.ensures in
    let number = rw c.at.ensures at c.slot_number.ensures in
    slot-sum a.m a.level a.i a.d half from side c.slot_number.result number refl
