-- What each call on an index finds first: "1, 3, 8" accept, and there is an index with its ruler; or they refuse, and so does the call.
use Rattle.std.specs.Prelude.{Result, Ok, Err}
use Rattle.ruler.specs.declared.Numbers.{Numbers}
use Rattle.ruler.specs.declared.Ruler.{Ruler}
use Rattle.ruler.specs.Ruler.{scale_of}
use Rattle.ruler.specs.Made.{judge}
use Rattle.layout.specs.declared.Refusal.{Refusal}
use Rattle.layout.specs.Outcomes.{Outcome, Accepted, Refused, ruler_if}
use Rattle.layout.specs.Words.{Index}
use Rattle.layout.specs.Refusals.{check_outcome}

unfoldable pub open_of : Numbers → Index → Result Ruler Refusal
open_of n x = ruler_if (judge n) (check_outcome (scale_of n) x)

-- the outcome that is told by it: none of these refusals has a detail
unfoldable pub outcome_of : Result Ruler Refusal → Outcome
outcome_of (Ok ruler) = Accepted
outcome_of (Err why) = Refused why 0
