-- The cells of the trip's times at the deepest level are those of the scale.
use mathlib.Core.Path.{refl}
use Rattle.store.specs.TripWalk.{slots_of_trip}
use Rattle.layout.proofs.RulerCells.{deep-ruler, first_cell_lem, last_cell_lem}
use Rattle.store.proofs.places.replica_slots.Goals as goal

pub slots_of-requires : goal.slots_of-requires
slots_of-requires c =
    let r = c.args.ruler in
    let fits = c.requires.0 in
    rw (c.bottom_cell-last.ensures, c.bottom_cell-first.ensures)
    (deep-ruler r, refl, first_cell_lem r c.args.t fits, last_cell_lem r c.args.t fits, c.requires.1)

pub returns : goal.returns
unfolding slots_of_trip
returns c =
    rw (c.bottom_cell-last.ensures, c.bottom_cell-first.ensures) at c.slots_of.ensures
