-- The part between the slot's word and the next, which tell how many entries it has.
use mathlib.Core.Path.{sym}
use Rattle.store.proofs.Parts.{part_entries}
use Rattle.verify.specs.Local.{slot_at}
use Rattle.verify.proofs.origin.slot_has.Goals as goal

pub has_trip-requires-clause-counted : goal.has_trip-requires-clause-counted
has_trip-requires-clause-counted c = rw c.part_there-part.ensures (sym (part_entries _ _ c.args.k _ c.requires.part_there))

pub has_trip-requires-clause-in_order : goal.has_trip-requires-clause-in_order
unfolding slot_at
has_trip-requires-clause-in_order c = rw c.part_there-part.ensures c.requires.in_order

pub returns : goal.returns
unfolding slot_at
returns c = rw (c.has_trip.ensures, c.part_there-part.ensures)
