-- 9, 4, 5 and 17 of a question as it is put: the question that it is, or the refusal.
use Rattle.std.specs.Prelude.{Option, Some, None, Result, Ok, Err}
use Rattle.ruler.specs.Ruler.{Scale}
use Rattle.trip.specs.declared.Asking.{Asking}
use Rattle.trip.specs.declared.Question.{Question}
use Rattle.trip.specs.declared.Relationship.{Relationship}
use Rattle.trip.specs.Relationships.{named}
use Rattle.layout.specs.declared.Rejection.{Rejection}
use Rattle.layout.specs.declared.Refusal.TheVariants.{NoRelationship}
use Rattle.layout.specs.Outcomes.{Outcome, Accepted, rejection}
use Rattle.layout.specs.Answers.{question}
use Rattle.layout.specs.Refusals.{window_tests}

unfoldable pub judged_as : Option Relationship → (times : Outcome) → Asking → Result Question Rejection
judged_as (Some r) (Ok _) q = Ok (question r q)
judged_as (Some r) (Err w) q = Err w
judged_as None times q = Err (rejection NoRelationship 0)

unfoldable pub judged_of : Scale → Asking → Result Question Rejection
judged_of s q = judged_as (named q.code) (window_tests s q.window q.day Accepted) q
