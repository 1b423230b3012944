-- Refused as the opening is; past it the words are an index, and the rest of the chain decides.
use mathlib.Core.Path.{ap, ◌∙◌}
use Rattle.std.proofs.lemmas.Result.{err_from_is_err_and}
use Rattle.ruler.specs.declared.Numbers.{Numbers}
use Rattle.ruler.specs.Ruler.{scale_of}
use Rattle.ruler.specs.Made.{scale}
use Rattle.layout.specs.Calls.{ask_of}
use Rattle.store.specs.WordsLent.{index_of}
use Rattle.verify.proofs.Opening.{opened, shut}
use Rattle.ask.proofs.Endings.{ends_unchecked, past_check}
use Rattle.ask.proofs.ask.Goals as goal

pub returns-in_err-ruler : goal.returns-in_err-ruler
returns-in_err-ruler c =
    let a = c.args in
    let x = index_of a.words in
    let why = err_from_is_err_and c.from_residual.result c.from_residual.ensures.1 in
    rw (why.1, why.2) (ends_unchecked (scale_of a.numbers) x a.asking _ (shut a.numbers x _ c.open.ensures c.in_err-ruler.was))

pub answer_to-requires : goal.answer_to-requires
answer_to-requires c =
    let a = c.args in
    let x = index_of a.words in
    (opened a.numbers x c.in_ok-ruler.ruler c.open.ensures c.in_ok-ruler.was).is-index

pub returns : goal.returns
returns c =
    let a = c.args in
    let x = index_of a.words in
    let w = opened a.numbers x c.in_ok-ruler.ruler c.open.ensures c.in_ok-ruler.was in
    c.answer_to.ensures ∙ past_check (scale c.in_ok-ruler.ruler) x a.asking _ w.passes
    ∙ ap (λ (n : Numbers). ask_of (scale_of n) x a.asking a.answers.now) w.numbers
