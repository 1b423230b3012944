-- The three tests of `trips_ok`, each by its function, on the words of the entries.
use Rattle.layout.specs.declared.Half.TheVariants.{Originals, Replicas}
use Rattle.verify.specs.Local.{trips_ok}
use Rattle.verify.proofs.TestsPassed.{of_halves, of_slots, half_room, all_rows, few-rows, all_fit}
use Rattle.verify.proofs.trips_ok.Goals as goal

pub slice_bounds-ids_differ-end : goal.slice_bounds-ids_differ-end
slice_bounds-ids_differ-end c = rw c.words_of-used.ensures (half_room _ _ (of_halves _ _ _ _ c.requires.halves_passed).0)

pub ids_differ-differ-requires : goal.ids_differ-differ-requires
ids_differ-differ-requires c =
    few-rows _ _ _ c.words_of-used.ensures (of_halves _ _ _ _ c.requires.halves_passed).0 (of_slots _ _ _ _ _ c.requires.slots_passed).0

pub slice_bounds-all_known-end : goal.slice_bounds-all_known-end
slice_bounds-all_known-end c = rw c.words_of-copied.ensures (half_room _ _ (of_halves _ _ _ _ c.requires.halves_passed).1)

pub all_known-known-requires-clause-originals_passed : goal.all_known-known-requires-clause-originals_passed
all_known-known-requires-clause-originals_passed c = ((of_halves _ _ _ _ c.requires.halves_passed).0, (of_slots _ _ _ _ _ c.requires.slots_passed).1)

pub all_known-known-requires-clause-rows_fit : goal.all_known-known-requires-clause-rows_fit
all_known-known-requires-clause-rows_fit c =
    all_fit _ _ _ c.words_of-copied.ensures _ Replicas c.requires.halves_long.1 (of_halves _ _ _ _ c.requires.halves_passed).1
    (of_slots _ _ _ _ _ c.requires.slots_passed).2

pub counts_to-counted-requires : goal.counts_to-counted-requires
counts_to-counted-requires c =
    let half = (of_halves _ _ _ _ c.requires.halves_passed).0 in
    let slots = of_slots _ _ _ _ _ c.requires.slots_passed in
    let used = c.words_of-used.ensures in
    (few-rows _ _ _ used half slots.0, all_fit _ _ _ used _ Originals c.requires.halves_long.0 half slots.1)

pub returns : goal.returns
unfolding trips_ok
returns c =
    let trips = all_rows c.args.originals.dir.now c.args.originals.arena.now _ c.words_of-used.ensures in
    let copies = all_rows c.args.replicas.dir.now c.args.replicas.arena.now _ c.words_of-copied.ensures in
    rw (
      c.ids_differ-differ.ensures,
      c.all_known-known.ensures,
      c.counts_to-counted.ensures,
      trips,
      copies,
      c.entries_of.ensures,
      c.entries_of-2.ensures,
    )
