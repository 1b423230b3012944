-- What is sought is what matches, and of a trip within the bounds the day alone tells.
use mathlib.Core.Path.{◌≡◌, ap₂}
use mathlib.Core.Bool.{true, false, ◌&&◌}
use Prim.Native.Nat.{◌<◌}
use Rattle.trip.specs.declared.Trip.{Trip}
use Rattle.trip.specs.declared.Question.{Question}
use Rattle.trip.proofs.Days.{runs_bit}
use Rattle.layout.specs.Answers.{matching}
use Rattle.plan.specs.declared.sought.Sought.{Sought}
use Rattle.plan.specs.Bounds.{far, inside}
use Rattle.plan.specs.Sought.{is_sought, sought_by}
use Rattle.plan.proofs.Inside.{inside-related}

pub sought_matches : (q : Question) (t : Trip) → t.start.0 < far → t.end.0 < far → is_sought (sought_by q) false t ≡ matching q t
unfolding is_sought
sought_matches q t hs he = ap₂ ◌&&◌ (inside-related q.relationship q.window t hs he) (runs_bit q.day t)

pub sought_outside : (w : Sought) (t : Trip) → inside w.bounds t ≡ false → is_sought w false t ≡ false
unfolding is_sought
sought_outside w t e = rw e

pub sought_inside : (w : Sought) (t : Trip) → inside w.bounds t ≡ true → is_sought w true t ≡ is_sought w false t
unfolding is_sought
sought_inside w t e = rw e
