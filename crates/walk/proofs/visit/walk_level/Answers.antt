-- The matches of the looks passed are taken.
use mathlib.Core.Path.{◌≡◌}
use Rattle.plan.specs.Sought.{is_sought}
use Rattle.walk.specs.Levels.{level_look, looks_to}
use Rattle.walk.proofs.Visits.{turn_can, turn_took}
use Rattle.walk.proofs.LooksMeet.{look_seen, none_before, none_after, from_to, originals_in, replicas_in, next-there}
use native.Mathlib.Omega.{arith}
use Rattle.walk.proofs.visit.walk_level.Goals as goal

pub looks_from-k-requires : goal.looks_from-k-requires
looks_from-k-requires g c = originals_in c.requires.there

pub looks_to-k-end-requires : goal.looks_to-k-end-requires
looks_to-k-end-requires g c = replicas_in c.requires.there

pub loop-k-init : goal.loop-k-init
loop-k-init g c = rw (c.looks_from-k.ensures, none_before _ c.requires.there) (g.met.V.Visitor.none _)

pub part_of-part-requires : goal.part_of-part-requires
part_of-part-requires g c = rw c.look_at-look.ensures (next-there c.requires.there c.loop-k-test.true c.looks_to-k-end.ensures)

pub take-requires : goal.take-requires
take-requires g c =
    let a = c.args in
    let v = g.met.V.Visitor in
    let t = is_sought a.sought in
    let all = rw (← none_after t c.requires.there, ← c.looks_to-k-end.ensures) at c.requires.can_take in
    turn_can g.V.Visitor.CanTake g.V.Visitor.Took v.more v.first v.rest (level_look t a.words.directory.now a.words.originals.now a.words.replicas.now a.level) c.loop-k.k _
    c.loop-k-test.true all c.loop-k.invariant (look_seen a.sought _ _ _ a.level _ c.look_at-look.ensures c.part_of-part.ensures)

pub loop-k-preserved : goal.loop-k-preserved
loop-k-preserved g c =
    let a = c.args in
    let v = g.met.V.Visitor in
    let t = is_sought a.sought in
    let all = rw (← none_after t c.requires.there, ← c.looks_to-k-end.ensures) at c.requires.can_take in
    turn_took g.V.Visitor.CanTake g.V.Visitor.Took v.more v.first v.rest (level_look t a.words.directory.now a.words.originals.now a.words.replicas.now a.level) c.loop-k.k _
    c.loop-k-test.true all c.loop-k.invariant (look_seen a.sought _ _ _ a.level _ c.look_at-look.ensures c.part_of-part.ensures) c.take.ensures

pub returns : goal.returns
returns g c =
    let a = c.args in
    let ahead = (from_to a.level a.words.directory.now).0 in
    let e : c.loop-k.k ≡ looks_to a.level a.words.directory.now = omega (arith, ahead) in
    rw (e, none_after (is_sought a.sought) c.requires.there) at c.loop-k.invariant
