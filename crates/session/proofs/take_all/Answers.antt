-- What is held from chunk to chunk is what some input, fed from the start, leaves; where a write fails, its chunk was fed too.
use Rattle.std.proofs.lemmas.Result.{err_from_is_err_and}
use Rattle.feeding.proofs.Feeding.{reached_start, reached_more}
use Rattle.session.proofs.take_all.Goals as goal

pub loop-init : goal.loop-init
loop-init g c = (c.begin-standing.ensures.0, reached_start _ _ (c.begin-standing.ensures.1 _ _) c.requires)

pub returns-in_err-got-clause-err : goal.returns-in_err-got-clause-err
returns-in_err-got-clause-err g c =
    let why = err_from_is_err_and c.from_residual.result c.from_residual.ensures.1 in
    rw why.1 (c.loop.standing, c.loop.invariant.0, c.loop.invariant.1)

pub returns-in_err-standing-clause-err : goal.returns-in_err-standing-clause-err
returns-in_err-standing-clause-err g c =
    let (s, sound, fed) = c.in_err-standing.ensures.err in
    let why = err_from_is_err_and c.from_residual-in_err-standing.result c.from_residual-in_err-standing.ensures.1 in
    rw why.1 (s, sound, reached_more _ c.loop.invariant.1 fed)

pub returns-then-not-goes_on-clause-ok : goal.returns-then-not-goes_on-clause-ok
returns-then-not-goes_on-clause-ok g c =
    let fed = c.in_ok-standing.ensures.ok in
    (fed.0, reached_more _ c.loop.invariant.1 fed.1)

pub loop-preserved : goal.loop-preserved
loop-preserved g c =
    let fed = c.in_ok-standing.ensures.ok in
    (fed.0, reached_more _ c.loop.invariant.1 fed.1)
