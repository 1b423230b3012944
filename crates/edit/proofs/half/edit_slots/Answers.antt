-- After so many turns the first of the trip's slots are done: for every index that the words at entry are of.
use mathlib.Core.Path.{ap, subst}
use Prim.Native.Nat.{◌<◌}
use lib.ListN.{length}
use Rattle.store.specs.TripWalk.{slots_of_trip}
use Rattle.store.specs.Slots.{Holds}
use Rattle.edit.specs.SlotSteps.{slots_after}
use Rattle.edit.proofs.Between.{start, end}
use native.Mathlib.Omega.{arith}
use Rattle.edit.proofs.half.edit_slots.Goals as goal

pub loop-spot-init : goal.loop-spot-init
loop-spot-init g c = λ s x ts w e. start s c.args.half x c.args.t ts _ _ w.passing

pub at_slot-requires : goal.at_slot-requires
at_slot-requires g c =
    let w = c.requires in
    let l = c.loop-spot in (
      slots_after w.0 c.args.half w.1 c.args.t w.2 l.spot-index,
      rw w.4 (w.3.readied l.dir l.arena l.spot-index (omega (arith, ap length w.4)) l.auto.arena (l.invariant _ _ _ w.3 w.4)),
    )

pub loop-spot-preserved : goal.loop-spot-preserved
loop-spot-preserved g c = λ s x ts w e.
    let l = c.loop-spot in
    let h : l.spot-index < length (slots_of_trip s c.args.half c.args.t) = omega (arith, ap length e) in
    subst (Holds _ _) (w.turned l.spot-index h)
    (rw e at (c.at_slot.ensures (slots_after s c.args.half x c.args.t ts l.spot-index)
    (rw e (w.readied l.dir l.arena l.spot-index h l.auto.arena (l.invariant s x ts w e)))))

pub returns : goal.returns
returns g c = λ s x ts w e.
    let l = c.loop-spot in
    end s c.args.half x c.args.t ts _ _ w.passing c.args.spots.now e _ _ l.spot-index l.auto.arena (l.invariant s x ts w e) (omega arith)
