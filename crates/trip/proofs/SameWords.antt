-- Trips with the same words are the same trip.
use mathlib.Core.Path.{◌≡◌}
use mathlib.Core.Bool.{◌&&◌}
use lib.Dec.{T, eqb, eqb→eq, eqb_refl}
use Rattle.lists.proofs.Tests.{of_and, to_and}
use Rattle.ruler.specs.Ruler.{same_time}
use Rattle.trip.specs.declared.Trip.{Trip}
use Rattle.trip.specs.Trips.{trip_of, same_trip}

pub of_same : (t u : Trip) → T (same_trip t u) → t ≡ u
unfolding same_trip
of_same t u q =
    let times = same_time t.end u.end && eqb t.days u.days in
    let a = of_and (eqb t.id u.id) (same_time t.start u.start && times) q in
    let b = of_and (same_time t.start u.start) times a.1 in
    let c = of_and (same_time t.end u.end) (eqb t.days u.days) b.1 in
    let x = eqb→eq t.id u.id a.0 in
    let y = eqb→eq t.start.0 u.start.0 b.0 in
    let z = eqb→eq t.end.0 u.end.0 c.0 in
    let w = eqb→eq t.days u.days c.1 in
    λ i. trip_of (x i) (y i) (z i) (w i)

pub same_refl : (t : Trip) → T (same_trip t t)
unfolding same_trip
same_refl t =
    to_and (eqb t.id t.id) _ (eqb_refl t.id)
    (to_and (same_time t.start t.start) _ (eqb_refl t.start.0)
    (to_and (same_time t.end t.end) (eqb t.days t.days) (eqb_refl t.end.0) (eqb_refl t.days)))
