-- That of the place.
use Rattle.std.proofs.lemmas.Result.{err_from_is_err_and}
use Rattle.view.proofs.ViewEntries.{refused_by, accepted_by}
use Rattle.view.proofs.run_outcome.Goals as goal

pub returns-in_err-run_place : goal.returns-in_err-run_place
returns-in_err-run_place c =
    let why = err_from_is_err_and c.from_residual.result c.from_residual.ensures.1 in
    rw (why.1, why.2) (refused_by _ _ _ _ _ _ c.run_place.ensures c.in_err-run_place.was)

pub returns : goal.returns
returns c = accepted_by _ _ _ _ _ _ c.run_place.ensures c.in_ok-run_place.was
