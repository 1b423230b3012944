-- A refusal is told with no detail.
use Rattle.std.proofs.Common.{refl}
use Rattle.std.proofs.lemmas.Result.{err_from_is_err_and}
use Rattle.verify.specs.Opening.{outcome_of}
use Rattle.verify.proofs.outcome_of.Goals as goal

pub returns-in_err-opened : goal.returns-in_err-opened
unfolding outcome_of
returns-in_err-opened c =
    let why = err_from_is_err_and c.from_residual.result c.from_residual.ensures.1 in
    rw (why.1, why.2, c.in_err-opened.was) refl

pub returns : goal.returns
unfolding outcome_of
returns c = rw c.in_ok-opened.was refl
