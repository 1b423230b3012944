-- Document 01, "An accepted call returns number 0 and detail 0. A refusal returns its number and one detail (0 unless named)": what a call answers
-- beside what it gives.
use Rattle.std.specs.Prelude.{ℕ, Option, Some, None, Result, Ok, Err}
use Rattle.ruler.specs.declared.Ruler.{Ruler}
use Rattle.layout.specs.declared.Refusal.{Refusal}
use Rattle.layout.specs.declared.Refusal.TheVariants.{RulerOutOfBounds}
use Rattle.layout.specs.declared.Rejection.{Rejection}

-- accepted, or why not
abbrev pub Outcome : Type 0
Outcome = Result Unit Rejection

abbrev pub Accepted : Outcome
Accepted = Ok tt

abbrev pub rejection : Refusal → (detail : ℕ) → Rejection
rejection why detail = record { refusal = why; detail = detail }

abbrev pub Refused : Refusal → (detail : ℕ) → Outcome
Refused why detail = Err (rejection why detail)

-- what a call on an index finds first: the ruler, where a chain of tests that begins with 1 accepts, and else its refusal
unfoldable pub ruler_if : Option Ruler → Outcome → Result Ruler Refusal
ruler_if (Some ruler) (Ok _) = Ok ruler
ruler_if None (Ok _) = Err RulerOutOfBounds
ruler_if (Some ruler) (Err r) = Err r.refusal
ruler_if None (Err r) = Err r.refusal

module _ {A : Type 0} where
  -- what an accepted call gives, or why there is nothing
  unfoldable pub given_if : Outcome → (given : A) → Result A Rejection
  given_if (Ok _) given = Ok given
  given_if (Err r) given = Err r
