-- The rows passed their tests, so those left decide.
use Rattle.std.proofs.lemmas.Result.{err_from_is_err_and}
use mathlib.Core.Path.{sym, ap, ◌∙◌}
use Prim.Native.Nat.{◌+◌}
use lib.ListN.{drop}
use Rattle.ruler.specs.Made.{scale}
use Rattle.layout.specs.Outcomes.{Outcome, Accepted}
use Rattle.layout.specs.Words.{rows}
use Rattle.layout.specs.Refusals.{is_accepted, first_bad_row}
use Rattle.layout.proofs.Links.{and_then, then_refused, then_accepted}
use Rattle.build.specs.RowsJudged.{rows_back}
use Rattle.build.proofs.RowsJudged.{rows_turn, rows_end}
use native.Mathlib.Omega.{arith}
use Rattle.build.proofs.rows.first_bad_row.Goals as goal

pub returns-in_err-outcome_at : goal.returns-in_err-outcome_at
unfolding is_accepted
returns-in_err-outcome_at c =
    let k = c.loop-i in
    let s = scale c.args.ruler in
    let bad = c.in_err-outcome_at.was in
    let rest = first_bad_row s (k.i + 1) (rows_back c.args.table.now (k.i + 1)) (drop (k.i + 1) (rows c.args.table.now)) Accepted in
    let why = err_from_is_err_and c.from_residual.result c.from_residual.ensures.1 in
    rw (why.1, why.2) (sym bad ∙ sym (then_refused _ rest (rw bad)) ∙ ap (λ (o : Outcome). and_then o rest) c.outcome_at.ensures
    ∙ sym (rows_turn s c.args.table.now k.i (omega arith)) ∙ k.invariant)

pub loop-i-preserved : goal.loop-i-preserved
unfolding is_accepted
loop-i-preserved c =
    let k = c.loop-i in
    let s = scale c.args.ruler in
    let rest = first_bad_row s (k.i + 1) (rows_back c.args.table.now (k.i + 1)) (drop (k.i + 1) (rows c.args.table.now)) Accepted in
    sym (then_accepted _ rest (rw c.in_ok-outcome_at.was)) ∙ ap (λ (o : Outcome). and_then o rest) c.outcome_at.ensures
    ∙ sym (rows_turn s c.args.table.now k.i (omega arith)) ∙ k.invariant

pub returns : goal.returns
returns c =
    let k = c.loop-i in
    sym (rows_end (scale c.args.ruler) c.args.table.now k.i (omega arith)) ∙ k.invariant
