-- The trip is looked for in the slot of its original.
use Prim.Native.Nat.{◌*◌, ◌<◌}
use Rattle.lists.proofs.Tests.{to_T}
use Rattle.ruler.specs.Made.{scale}
use Rattle.layout.specs.Words.{partitions, half_length}
use Rattle.layout.proofs.Chains.{of_fits}
use Rattle.store.proofs.Homes.{home_in}
use Rattle.verify.specs.Local.{is_known}
use Rattle.verify.proofs.SlotsCut.{slot_in}
use Rattle.verify.proofs.Known.{slot_in_order}
use Rattle.verify.proofs.origin.is_known.Goals as goal

pub home-requires : goal.home-requires
home-requires c = of_fits _ _ (to_T c.requires.trip_fits)

-- the slot is one of the half
in_half : (c : goal.After-home) → c.home.result < 2 * partitions (scale c.args.ruler).m
in_half c = rw c.home.ensures (home_in c.args.ruler c.args.sought.trip (of_fits _ _ (to_T c.requires.trip_fits)))

pub slot_has-requires-clause-part_there : goal.slot_has-requires-clause-part_there
unfolding half_length
slot_has-requires-clause-part_there c =
    slot_in c.args.originals.dir.now c.args.originals.arena.now _ c.requires.dir_len c.requires.originals_passed.0 c.home.result (in_half c)

pub slot_has-requires-clause-in_order : goal.slot_has-requires-clause-in_order
unfolding half_length
slot_has-requires-clause-in_order c =
    slot_in_order _ c.args.originals.dir.now c.args.originals.arena.now _ c.requires.dir_len c.requires.originals_passed.1 c.home.result (in_half c)

pub returns : goal.returns
unfolding is_known
returns c =
    rw (c.requires.trip_fits, ← c.home.ensures) c.slot_has.ensures
