-- The places where the trip may stand are halved until one is left.
use mathlib.Core.Path.{sym, ◌∙◌}
use Rattle.lists.proofs.Upto.{length-up_to}
use Rattle.store.specs.Ordered.{key_place}
use Rattle.store.proofs.Classes.{narrow_start}
use Rattle.verify.proofs.Known.{middle_in, found_nowhere, found_step, found_there}
use native.Mathlib.Omega.{arith}
use Rattle.verify.proofs.origin.has_trip.Goals as goal

pub returns-then-n-eq0 : goal.returns-then-n-eq0
returns-then-n-eq0 c =
    found_nowhere c.args.part.now c.args.sought.trip c.args.sought.key c.args.sought.keyed (omega (arith, c.requires.counted))

pub loop-width-init : goal.loop-width-init
loop-width-init c = narrow_start _ _ c.args.n (omega arith) (length-up_to _ _ ∙ sym c.requires.counted)

pub overflow_add-low : goal.overflow_add-low
overflow_add-low c = omega (arith, middle_in _ _ _ _ c.loop-width.invariant)

pub key_at-there-requires : goal.key_at-there-requires
key_at-there-requires c = (middle_in _ _ _ _ c.loop-width.invariant, omega arith)

pub overflow_add-low-in-loop-width : goal.overflow_add-low-in-loop-width
overflow_add-low-in-loop-width c = omega (arith, middle_in _ _ _ _ c.loop-width.invariant)

pub loop-width-preserved : goal.loop-width-preserved
unfolding key_place
loop-width-preserved c =
    let k = c.loop-width in
    found_step c.args.part.now c.args.sought.trip c.args.sought.key c.args.sought.keyed (λ i. omega (arith, c.type_inv.part i)) c.requires.in_order
    k.low k.width c.key_at-there.result c.narrowed-low.result k.invariant (omega arith) c.key_at-there.ensures c.narrowed-low.ensures

pub trip_at-requires : goal.trip_at-requires
trip_at-requires c = omega (arith, middle_in _ _ _ _ c.loop-width.invariant)

pub returns : goal.returns
returns c =
    let k = c.loop-width in
    rw (c.same.ensures, c.trip_at.ensures)
    (found_there c.args.part.now c.args.sought.trip c.args.sought.key c.args.sought.keyed k.low k.width k.invariant (omega arith))
