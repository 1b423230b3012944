-- A part in an order of times, cut to the entries whose time can match. "Order in a slot: O_in and O_aft by start then id; R_in by end then id;
-- R_aft by id."
use Rattle.std.specs.Prelude.{Bool, true, cond, List, ℕ, ◌*◌, ◌/◌, ◌≤◌, ◌<◌, T, leb, length}
use Rattle.lists.specs.Lists.{keep}
use Rattle.ruler.specs.declared.Time.{Time}
use Rattle.ruler.specs.Ruler.{before}
use Rattle.trip.specs.declared.Trip.{Trip}
use Rattle.layout.specs.Words.{entry_words, trip_at, words, rows}
use Rattle.plan.specs.declared.bounds.Span.{Span}
use Rattle.plan.specs.declared.bounds.Bounds.{Bounds}
use Rattle.plan.specs.declared.looks.Order.{Order}
use Rattle.plan.specs.declared.looks.Order.TheVariants.{ByStart, ByEnd, Other}
use Rattle.plan.specs.Bounds.{has}

-- the times by which slots are in order
abbrev pub start_of : Trip → Time
start_of t = t.start

abbrev pub end_of : Trip → Time
end_of t = t.end

abbrev pub earlier_than : (time : Trip → Time) → (limit : Time) → Trip → Bool
earlier_than time limit t = before (time t) limit

-- an entry whose time is of a span
unfoldable pub timely : (time : Trip → Time) → Span → Trip → Bool
timely time s t = has s (time t)

-- the entries of a part that are timely by the time that it is in order of. Another order tells nothing of times.
abbrev pub timely_of : Order → Bounds → (part : List ℕ) → List ℕ
timely_of ByStart b part = words (keep (timely start_of b.start) (rows part))
timely_of ByEnd b part = words (keep (timely end_of b.end) (rows part))
timely_of Other b part = part

-- what is left of a part: those, or all where they are so few that testing each is quicker than cutting
abbrev pub few : ℕ
few = 16

unfoldable pub cut_of : Order → Bounds → (part : List ℕ) → List ℕ
cut_of o b part = cond (leb (length part) (entry_words * few)) part (timely_of o b part)

-- the times of a part's entries never fall; and so where the part is in an order of times
abbrev pub Rises : (time : Trip → Time) → (part : List ℕ) → Type 0
Rises time part = (i j : ℕ) → i < j → j < length part / entry_words → (time (trip_at part i)).0 ≤ (time (trip_at part j)).0

abbrev pub Ordered : Order → (part : List ℕ) → Type 0
Ordered ByStart part = Rises start_of part
Ordered ByEnd part = Rises end_of part
Ordered Other part = T true
