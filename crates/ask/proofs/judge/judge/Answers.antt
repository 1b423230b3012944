-- By what the code names, and by what the tests of the window say.
use Rattle.std.proofs.Common.{◌≡◌, sym, ◌∙◌, refl, arith, Some, None}
use Rattle.std.proofs.lemmas.Result.{err_from_is_err_and}
use Rattle.layout.specs.declared.Refusal.TheVariants.{NoRelationship}
use Rattle.ask.specs.QuestionJudged.{judged_as, judged_of}
use Rattle.ask.proofs.judge.judge.Goals as goal

pub returns-in_err-relationship : goal.returns-in_err-relationship
unfolding judged_of judged_as
returns-in_err-relationship c =
    let none : c.relationship_of.result ≡ None = grind arith in
    let which : c.in_err-relationship.field-0.0 ≡ NoRelationship = grind arith in
    let why = err_from_is_err_and c.from_residual.result c.from_residual.ensures.1 in
    rw (why.1, why.2, which, sym c.relationship_of.ensures ∙ none) refl

pub returns-in_err-window_outcome : goal.returns-in_err-window_outcome
unfolding judged_of judged_as
returns-in_err-window_outcome c =
    let some : c.relationship_of.result ≡ Some c.in_ok-relationship.relationship = grind arith in
    let why = err_from_is_err_and c.from_residual-in_err-window_outcome.result c.from_residual-in_err-window_outcome.ensures.1 in
    rw (why.1, why.2, sym c.relationship_of.ensures ∙ some, sym c.window_outcome.ensures ∙ c.in_err-window_outcome.was) refl

pub returns : goal.returns
unfolding judged_of judged_as
returns c =
    let some : c.relationship_of.result ≡ Some c.in_ok-relationship.relationship = grind arith in
    rw (sym c.relationship_of.ensures ∙ some, sym c.window_outcome.ensures ∙ c.in_ok-window_outcome.was) refl
