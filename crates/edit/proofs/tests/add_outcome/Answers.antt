-- The links after the check: the trips and the entries are counted by the directory, the trips read off the originals.
use Rattle.std.proofs.Common.{Err}
use Rattle.std.proofs.lemmas.Result.{err_from_is_err_and}
use mathlib.Core.Path.{refl, sym, ap, ◌∙◌}
use mathlib.Core.Bool.{true, false}
use Rattle.layout.specs.Refusals.{refuse}
use Rattle.layout.proofs.RulerCells.{deep-ruler}
use Rattle.edit.proofs.IndexRead.{seen}
use Rattle.edit.proofs.Chained.{reading, add-full, add_row, row_fits, trips_few, copies_few, add-room}
use native.Mathlib.Omega.{arith}
use Rattle.edit.proofs.tests.add_outcome.Goals as goal

pub trips_of-trips-requires : goal.trips_of-trips-requires
trips_of-trips-requires c = rw c.bottom.ensures (deep-ruler c.args.ruler, (seen c.args.ruler _ c.requires).word_in)

pub entries_of-copies-requires : goal.entries_of-copies-requires
entries_of-copies-requires c = (seen c.args.ruler _ c.requires).some_word

pub returns-then-trips-ge-MOST_TRIPS : goal.returns-then-trips-ge-MOST_TRIPS
returns-then-trips-ge-MOST_TRIPS c =
    let w = reading c.args.ruler _ _ _ _ c.requires c.bottom.ensures c.trips_of-trips.ensures c.entries_of-copies.ensures in
    ap Err c.into.ensures ∙ add-full _ _ _ _ _ w c.if-trips-ge-MOST_TRIPS.true

pub slice_bounds-trip_outcome-end : goal.slice_bounds-trip_outcome-end
slice_bounds-trip_outcome-end c =
    let w = reading c.args.ruler _ _ _ _ c.requires c.bottom.ensures c.trips_of-trips.ensures c.entries_of-copies.ensures in
    omega (arith, w.shown, w.trips-are)

pub returns-in_err-trip_outcome : goal.returns-in_err-trip_outcome
returns-in_err-trip_outcome c =
    let w = reading c.args.ruler _ _ _ _ c.requires c.bottom.ensures c.trips_of-trips.ensures c.entries_of-copies.ensures in
    let why = err_from_is_err_and c.from_residual.result c.from_residual.ensures.1 in
    rw (why.1, why.2) (add_row _ _ _ _ _ w c.if-trips-ge-MOST_TRIPS.false _ c.trip_outcome.ensures _ c.in_err-trip_outcome.was)

pub lacks_room-requires : goal.lacks_room-requires
lacks_room-requires c =
    let w = reading c.args.ruler _ _ _ _ c.requires c.bottom.ensures c.trips_of-trips.ensures c.entries_of-copies.ensures in
    let fine = c.in_ok-trip_outcome.was in
    (row_fits _ _ _ _ _ w c.if-trips-ge-MOST_TRIPS.false _ c.trip_outcome.ensures fine, trips_few _ _ _ _ _ w c.if-trips-ge-MOST_TRIPS.false _ c.trip_outcome.ensures fine)

pub returns-then-lacks_room : goal.returns-then-lacks_room
unfolding refuse
returns-then-lacks_room c =
    let w = reading c.args.ruler _ _ _ _ c.requires c.bottom.ensures c.trips_of-trips.ensures c.entries_of-copies.ensures in
    let fine = c.in_ok-trip_outcome.was in
    ap Err c.into-then-lacks_room.ensures ∙ sym (add-room _ _ _ _ _ w c.if-trips-ge-MOST_TRIPS.false _ c.trip_outcome.ensures fine true _ (sym c.lacks_room.ensures ∙ c.if-lacks_room.true) refl)

pub lacks_room-requires-2 : goal.lacks_room-requires-2
lacks_room-requires-2 c =
    let w = reading c.args.ruler _ _ _ _ c.requires c.bottom.ensures c.trips_of-trips.ensures c.entries_of-copies.ensures in
    let fine = c.in_ok-trip_outcome.was in
    (row_fits _ _ _ _ _ w c.if-trips-ge-MOST_TRIPS.false _ c.trip_outcome.ensures fine, copies_few _ _ _ _ _ w c.if-trips-ge-MOST_TRIPS.false _ c.trip_outcome.ensures fine)

pub returns-then-lacks_room-2 : goal.returns-then-lacks_room-2
unfolding refuse
returns-then-lacks_room-2 c =
    let w = reading c.args.ruler _ _ _ _ c.requires c.bottom.ensures c.trips_of-trips.ensures c.entries_of-copies.ensures in
    let fine = c.in_ok-trip_outcome.was in
    ap Err c.into-then-lacks_room-2.ensures
    ∙ sym (add-room _ _ _ _ _ w c.if-trips-ge-MOST_TRIPS.false _ c.trip_outcome.ensures fine false true (sym c.lacks_room.ensures ∙ c.if-lacks_room.false) (sym c.lacks_room-2.ensures ∙ c.if-lacks_room-2.true))

pub returns : goal.returns
unfolding refuse
returns c =
    let w = reading c.args.ruler _ _ _ _ c.requires c.bottom.ensures c.trips_of-trips.ensures c.entries_of-copies.ensures in
    let fine = c.in_ok-trip_outcome.was in
    sym (add-room _ _ _ _ _ w c.if-trips-ge-MOST_TRIPS.false _ c.trip_outcome.ensures fine false false (sym c.lacks_room.ensures ∙ c.if-lacks_room.false) (sym c.lacks_room-2.ensures ∙ c.if-lacks_room-2.false))
