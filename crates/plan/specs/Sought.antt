-- What a question seeks: trips within the bounds of its relationship "whose bit is set" for its day.
use Rattle.std.specs.Prelude.{Bool, ◌&&◌, ◌||◌, ◌^◌}
use Rattle.trip.specs.declared.Trip.{Trip}
use Rattle.trip.specs.declared.Question.{Question}
use Rattle.trip.specs.Trips.{runs_on_any}
use Rattle.plan.specs.declared.sought.Sought.{Sought}
use Rattle.plan.specs.Bounds.{inside, bounds_of}

abbrev pub sought_by : Question → Sought
sought_by q = record { bounds = bounds_of q.relationship q.window; days = 2 ^ q.day }

-- a trip that is sure to be within the bounds is asked for its days alone
unfoldable pub is_sought : Sought → (sure : Bool) → Trip → Bool
is_sought w sure t = (sure || inside w.bounds t) && runs_on_any w.days t
