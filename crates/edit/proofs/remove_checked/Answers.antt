-- The place that the search gives is that of the id among the trips; the trip there is taken out.
use Rattle.std.proofs.Common.{◌≡◌, Some, None}
use Rattle.std.proofs.lemmas.Result.{err_from_is_err_and}
use Rattle.ruler.specs.Made.{scale}
use Rattle.layout.specs.declared.Refusal.TheVariants.{NoSuchId}
use Rattle.layout.specs.Calls.{index}
use Rattle.layout.proofs.RulerCells.{deep-ruler}
use Rattle.edit.proofs.IndexRead.{seen, trips_read, rows-read}
use Rattle.edit.proofs.HalfLent.{removing}
use Rattle.edit.proofs.Chained.{remove-accepted}
use Rattle.edit.proofs.Removed.{found, not_found}
use native.Mathlib.Omega.{arith}
use Rattle.edit.proofs.remove_checked.Goals as goal

pub trips_of-trips-requires : goal.trips_of-trips-requires
trips_of-trips-requires c = rw c.bottom.ensures (deep-ruler c.args.ruler, (seen c.args.ruler _ c.requires).word_in)

pub slice_bounds-find_id-end : goal.slice_bounds-find_id-end
slice_bounds-find_id-end c =
    let w = seen c.args.ruler _ c.requires in
    omega (arith, w.inside, trips_read _ _ w c.bottom.ensures c.trips_of-trips.ensures)

pub returns-in_err-place : goal.returns-in_err-place
returns-in_err-place c =
    let w = seen c.args.ruler _ c.requires in
    let read = rows-read _ _ w (trips_read _ _ w c.bottom.ensures c.trips_of-trips.ensures) in
    let none : c.find_id.result ≡ None = grind arith in
    let which : c.in_err-place.field-0.0 ≡ NoSuchId = grind arith in
    let why = err_from_is_err_and c.from_residual.result c.from_residual.ensures.1 in
    rw (why.1, why.2, which) (not_found _ _ c.args.id c.requires w (rw (read, none) at c.find_id.ensures))

pub trip_at-t-requires : goal.trip_at-t-requires
trip_at-t-requires c =
    let w = seen c.args.ruler _ c.requires in
    let read = rows-read _ _ w (trips_read _ _ w c.bottom.ensures c.trips_of-trips.ensures) in
    let some : c.find_id.result ≡ Some c.in_ok-place.place = grind arith in
    let at = rw (read, some) at c.find_id.ensures in
    omega (arith, w.inside, at.0)

pub write-requires : goal.write-requires
write-requires c =
    let w = seen c.args.ruler _ c.requires in
    let read = rows-read _ _ w (trips_read _ _ w c.bottom.ensures c.trips_of-trips.ensures) in
    let some : c.find_id.result ≡ Some c.in_ok-place.place = grind arith in
    let f = found _ _ c.args.id c.requires w c.trip_at-t.result c.in_ok-place.place (rw (read, some) at c.find_id.ensures) c.trip_at-t.ensures in
    (_, removing c.args.ruler _ _ (rw f.same f.accepted) f.member)

pub returns : goal.returns
returns c =
    let x = index c.args.directory.now c.args.originals.now c.args.replicas.now in
    let w = seen c.args.ruler _ c.requires in
    let read = rows-read _ _ w (trips_read _ _ w c.bottom.ensures c.trips_of-trips.ensures) in
    let some : c.find_id.result ≡ Some c.in_ok-place.place = grind arith in
    let f = found _ _ c.args.id c.requires w c.trip_at-t.result c.in_ok-place.place (rw (read, some) at c.find_id.ensures) c.trip_at-t.ensures in
    remove-accepted (scale c.args.ruler) x _ c.args.id f.accepted
    (rw f.same at (c.write.ensures _ (removing c.args.ruler x c.trip_at-t.result (rw f.same f.accepted) f.member)))
