-- Document 01, "Relationships, question q against trip s", as definitions, with document 02's rows for MEETS and MET_BY (T-02). Every test is a
-- Bool and computes.
use Rattle.std.specs.Prelude.{Bool, false, ◌&&◌, List, [], ◌∷◌, ℕ, get_or, None, Option, Some}
use Rattle.ruler.specs.Ruler.{before, same_time, no_later}
use Rattle.trip.specs.declared.Trip.{Trip}
use Rattle.trip.specs.declared.Window.{Window}
use Rattle.trip.specs.declared.Relationship.{Relationship}
use Rattle.trip.specs.declared.Relationship.TheVariants.{Equals, Starts, StartedBy, Finishes, FinishedBy, Meets, MetBy, Overlaps, OverlappedBy, Contains, ContainedBy, Before, After, GOverlaps}

-- the column "Code"
unfoldable pub code_of : Relationship → ℕ
code_of Equals = 0
code_of Starts = 1
code_of StartedBy = 2
code_of Finishes = 3
code_of FinishedBy = 4
code_of Meets = 5
code_of MetBy = 6
code_of Overlaps = 7
code_of OverlappedBy = 8
code_of Contains = 9
code_of ContainedBy = 10
code_of Before = 11
code_of After = 12
code_of GOverlaps = 13

abbrev pub last_code : ℕ
last_code = 13

-- the relationships in the order of their codes, and what a code names (the law `named_code` ties it to `code_of`)
abbrev pub in_order : List (Option Relationship)
in_order =
    Some Equals
    ∷ Some Starts
    ∷ Some StartedBy
    ∷ Some Finishes
    ∷ Some FinishedBy
    ∷ Some Meets
    ∷ Some MetBy
    ∷ Some Overlaps
    ∷ Some OverlappedBy
    ∷ Some Contains
    ∷ Some ContainedBy
    ∷ Some Before
    ∷ Some After
    ∷ Some GOverlaps
    ∷ []

abbrev pub named : (code : ℕ) → Option Relationship
named code = get_or in_order code None

-- the column "Holds when": the window q against the trip s. "MEETS shall hold when q.st < q.end = s.st < s.end, and MET_BY when
-- s.st < s.end = q.st < q.end."
unfoldable pub related : Relationship → Window → Trip → Bool
related Equals q s = same_time q.start s.start && same_time q.end s.end
related Starts q s = same_time q.start s.start && before q.end s.end
related StartedBy q s = same_time q.start s.start && before s.end q.end
related Finishes q s = before s.start q.start && same_time q.end s.end
related FinishedBy q s = before q.start s.start && same_time q.end s.end
related Meets q s = before q.start q.end && same_time q.end s.start && before s.start s.end
related MetBy q s = before s.start s.end && same_time s.end q.start && before q.start q.end
related Overlaps q s = before q.start s.start && before s.start q.end && before q.end s.end
related OverlappedBy q s = before s.start q.start && before q.start s.end && before s.end q.end
related Contains q s = before q.start s.start && before s.end q.end
related ContainedBy q s = before s.start q.start && before q.end s.end
related Before q s = before q.end s.start
related After q s = before s.end q.start
related GOverlaps q s = no_later q.start s.end && no_later s.start q.end

-- ---- "exactly one of codes 0 to 12 holds for any window and trip" (T-02; the law `one_of_thirteen`)

-- the codes 0 to 12 are those below
abbrev pub thirteen : ℕ
thirteen = 13

-- whether what a code names holds; a code that names nothing holds of nothing
unfoldable pub holds_by : Option Relationship → Window → Trip → Bool
holds_by (Some r) q s = related r q s
holds_by None q s = false

abbrev pub code_holds : (code : ℕ) → Window → Trip → Bool
code_holds code = holds_by (named code)
