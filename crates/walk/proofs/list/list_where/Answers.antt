-- The ids of those that pass, of the entries gone through, stand in the list's first words.
use mathlib.Core.Path.{ap, ◌∙◌}
use Rattle.trip.specs.declared.Trip.{Trip}
use Rattle.walk.proofs.Written.{listed-none}
use Rattle.walk.proofs.PartTurns.{found_none, found_all, turn_room, turn_listed}
use native.Mathlib.Omega.{arith}
use Rattle.walk.proofs.list.list_where.Goals as goal

pub loop-i-init : goal.loop-i-init
loop-i-init g c = rw (found_none _ _) (listed-none _)

pub put_if-count-requires : goal.put_if-count-requires
put_if-count-requires g c =
    turn_room g.passes c.args.part.now c.loop-i.invariant (omega arith) c.requires.1.1.1
    (c.requires.1.1.0 _ _ c.test.ensures ∙ ap g.passes c.trip_at-trip.ensures)

pub loop-i-preserved : goal.loop-i-preserved
loop-i-preserved g c =
    let put = c.put_if-count.ensures in
    let next = turn_listed g.passes c.args.part.now c.loop-i.invariant (omega arith) c.requires.1.1.1
    (c.requires.1.1.0 _ _ c.test.ensures ∙ ap g.passes c.trip_at-trip.ensures) (ap (λ (t : Trip). t.id) c.trip_at-trip.ensures) in
    rw (put.0, put.1) next

pub returns : goal.returns
returns g c = rw (← found_all g.passes c.args.part.now c.loop-i.i (omega arith)) c.loop-i.invariant
