-- Refused as it is judged; past that the question is answered.
use mathlib.Core.Path.{sym, ◌∙◌}
use Rattle.std.proofs.lemmas.Result.{err_from_is_err_and}
use Rattle.ruler.specs.Made.{scale}
use Rattle.layout.specs.Refusals.{table_of}
use Rattle.store.specs.WordsLent.{index_of}
use Rattle.ask.proofs.QuestionJudged.{judged_fit, judged_unfit}
use Rattle.ask.proofs.Endings.{ends_unfit, past_chain}
use Rattle.ask.proofs.answer_to.Goals as goal

pub returns-in_err-question : goal.returns-in_err-question
returns-in_err-question c =
    let a = c.args in
    let trips = table_of (scale a.ruler) (index_of a.words) in
    let why = err_from_is_err_and c.from_residual.result c.from_residual.ensures.1 in
    rw (why.1, why.2) (ends_unfit (scale a.ruler) trips a.asking _ _ (λ rest. (judged_unfit (scale a.ruler) a.asking _ c.judge.ensures c.in_err-question.was rest).0))

pub listed-requires : goal.listed-requires
listed-requires c = record {
  indexed = c.requires;
  on_ruler = (judged_fit (scale c.args.ruler) c.args.asking c.in_ok-question.question c.judge.ensures c.in_ok-question.was).on_ruler_lem;
}

pub returns : goal.returns
returns c =
    let a = c.args in
    let trips = table_of (scale a.ruler) (index_of a.words) in
    let fit = judged_fit (scale a.ruler) a.asking c.in_ok-question.question c.judge.ensures c.in_ok-question.was in
    c.listed.ensures ∙ sym (past_chain (scale a.ruler) trips a.asking _ c.in_ok-question.question fit)
