-- What a question answers, a count or a refusal, in the paper's words: an outcome and a count.
use Rattle.std.specs.Prelude.{List, ℕ, Result, Ok, Err}
use Rattle.layout.specs.declared.Rejection.{Rejection}
use Rattle.layout.specs.Outcomes.{Outcome, Accepted}
use Rattle.layout.specs.Calls.{Asked, asked}

abbrev pub outcome_told : Result ℕ Rejection → Outcome
outcome_told (Ok count) = Accepted
outcome_told (Err r) = Err r

-- "any count that a refused call gives is 0"
abbrev pub count_told : Result ℕ Rejection → ℕ
count_told (Ok count) = count
count_told (Err r) = 0

abbrev pub asked_by : Result ℕ Rejection → (answers : List ℕ) → Asked
asked_by answer answers = asked (outcome_told answer) (count_told answer) answers
