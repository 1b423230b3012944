-- The walk's slots stand in front of the small list, and the loop over them does the half.
use Rattle.ruler.specs.Made.{scale}
use Rattle.edit.proofs.Spotted.{over-inside, over-front}
use native.Mathlib.Omega.{arith}
use Rattle.edit.proofs.half.edit_half.Goals as goal

pub trip_slots-n-requires : goal.trip_slots-n-requires
trip_slots-n-requires g c = (c.requires.2.passing.fits, omega arith)

pub slice_bounds-edit_slots-end : goal.slice_bounds-edit_slots-end
slice_bounds-edit_slots-end g c =
    let n = c.trip_slots-n in
    omega (arith, over-inside n.result _ _ _ n.ensures.0 n.ensures.1)

pub edit_slots-requires : goal.edit_slots-requires
edit_slots-requires g c =
    let n = c.trip_slots-n in
    let w = c.requires in
    (scale c.args.ruler, w.0, w.1, w.2, over-front n.result _ _ _ n.ensures.0 n.ensures.1)

pub returns : goal.returns
returns g c =
    let n = c.trip_slots-n in
    λ x ts w. c.edit_slots.ensures (scale c.args.ruler) x ts w (over-front n.result _ _ _ n.ensures.0 n.ensures.1)
