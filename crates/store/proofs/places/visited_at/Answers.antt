-- One visit after the other.
use lib.Dec.{eqb}
use Rattle.store.proofs.TripWalk.{visit-few}
use Rattle.store.specs.TripSlots.{visits_at}
use Rattle.store.proofs.Walking.{wrote_long, wrote_both}
use native.Mathlib.Omega.{arith}
use Rattle.store.proofs.places.visited_at.Goals as goal

pub visited-requires : goal.visited-requires
visited-requires c =
    let g = c.args in
    let p = c.requires.1 in
    let v = c.visited-k.ensures in
    let long = wrote_long v in
    let few = visit-few g.half (eqb c.parity.result 1) g.lo.0 g.lo.1 g.first.1 g.last.1 in
    rw (c.first_of_two.ensures, p.high_level)
    record { n_in_bounds = (omega (arith, v.many, few), p.deep, omega (arith, p.high)); same_level = (p.first_level, p.last_level) }

pub returns : goal.returns
unfolding visits_at
returns c =
    let e = rw c.parity.ensures at c.visited-k.ensures in
    let f = rw (c.first_of_two.ensures, c.parity-2.ensures) at c.visited.ensures in
    wrote_both e f
