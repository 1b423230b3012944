-- Each relationship as bounds on a trip's start and end: the table of document 01, with document 02's rows, a row for each relationship. That these
-- are its relationships is the law `inside-related`. A window that is a point meets nothing and is met by nothing: its bounds have no time.
use Rattle.std.specs.Prelude.{Bool, cond, ◌&&◌, ℕ}
use Rattle.ruler.specs.declared.Time.{Time}
use Rattle.ruler.specs.Ruler.{time_at, before, no_later, next_time}
use Rattle.trip.specs.declared.Trip.{Trip}
use Rattle.trip.specs.declared.Window.{Window}
use Rattle.trip.specs.declared.Relationship.{Relationship}
use Rattle.trip.specs.declared.Relationship.TheVariants.{Equals, Starts, StartedBy, Finishes, FinishedBy, Meets, MetBy, Overlaps, OverlappedBy, Contains, ContainedBy, Before, After, GOverlaps}
use Rattle.plan.specs.declared.bounds.Span.{Span}
use Rattle.plan.specs.declared.bounds.Bounds.{Bounds}

-- a time after every ruler's
abbrev pub far : ℕ
far = 4294967295

-- the times from one on, up to another that is not of them
abbrev pub span : (from until : Time) → Span
span from until = record { from = from; until = until }

unfoldable pub has : Span → Time → Bool
has s t = no_later s.from t && before t s.until

abbrev pub exactly : Time → Span
exactly t = span t (next_time t)

-- a time alone where the test passes, and else no time
abbrev pub exactly_if : Bool → Time → Span
exactly_if test t = cond test (exactly t) (span t t)

abbrev pub later : Time → Span
later t = span (next_time t) (time_at far)

abbrev pub earlier : Time → Span
earlier t = span (time_at 0) t

abbrev pub between : (a b : Time) → Span
between a b = span (next_time a) b

abbrev pub since : Time → Span
since t = span t (time_at far)

abbrev pub until : Time → Span
until t = span (time_at 0) (next_time t)

abbrev pub any : Span
any = span (time_at 0) (time_at far)

-- bounds on a trip's start and end, and the test of them
abbrev pub bounds : (start end : Span) → Bounds
bounds s e = record { start = s; end = e }

unfoldable pub inside : Bounds → Trip → Bool
inside b t = has b.start t.start && has b.end t.end

unfoldable pub bounds_of : Relationship → Window → Bounds
bounds_of Equals q = bounds (exactly q.start) (exactly q.end)
bounds_of Starts q = bounds (exactly q.start) (later q.end)
bounds_of StartedBy q = bounds (exactly q.start) (earlier q.end)
bounds_of Finishes q = bounds (earlier q.start) (exactly q.end)
bounds_of FinishedBy q = bounds (later q.start) (exactly q.end)
bounds_of Meets q = bounds (exactly_if (before q.start q.end) q.end) (later q.end)
bounds_of MetBy q = bounds (earlier q.start) (exactly_if (before q.start q.end) q.start)
bounds_of Overlaps q = bounds (between q.start q.end) (later q.end)
bounds_of OverlappedBy q = bounds (earlier q.start) (between q.start q.end)
bounds_of Contains q = bounds (later q.start) (earlier q.end)
bounds_of ContainedBy q = bounds (earlier q.start) (later q.end)
bounds_of Before q = bounds (later q.end) any
bounds_of After q = bounds any (earlier q.start)
bounds_of GOverlaps q = bounds (until q.end) (since q.start)
