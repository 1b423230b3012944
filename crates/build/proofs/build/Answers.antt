-- Numbers out of bounds leave the words; else the ruler made of them is that of the numbers.
use Rattle.std.proofs.Common.{◌≡◌, sym, ap, ◌∙◌, arith, Some, None}
use Rattle.std.proofs.lemmas.Result.{err_from_is_err_and}
use Rattle.ruler.specs.declared.Numbers.{Numbers}
use Rattle.ruler.specs.Ruler.{scale_of}
use Rattle.ruler.proofs.RulerMade.{judged_good, judged_out}
use Rattle.ruler.proofs.Fair.{scale-good}
use Rattle.layout.specs.declared.Refusal.TheVariants.{RulerOutOfBounds}
use Rattle.layout.specs.Calls.{index, build_of}
use Rattle.build.proofs.Says.{says_1}
use Rattle.build.proofs.build.Goals as goal

pub returns-in_err-ruler : goal.returns-in_err-ruler
returns-in_err-ruler c =
    let a = c.args in
    let none : c.new.result ≡ None = grind arith in
    let which : c.in_err-ruler.field-0.0 ≡ RulerOutOfBounds = grind arith in
    let why = err_from_is_err_and c.from_residual.result c.from_residual.ensures.1 in
    rw (why.1, why.2, which) (says_1 (scale_of a.numbers) a.table.now a.directory.now a.originals.now a.replicas.now
    (scale-good _ ∙ judged_out _ (sym c.new.ensures ∙ none)))

pub returns : goal.returns
returns c =
    let a = c.args in
    let words = index a.directory.now a.originals.now a.replicas.now in
    let given : c.new.result ≡ Some c.in_ok-ruler.ruler = grind arith in
    let made = judged_good _ c.in_ok-ruler.ruler (sym c.new.ensures ∙ given) in
    c.build_on.ensures ∙ ap (λ (n : Numbers). build_of (scale_of n) a.table.now words) made.numbers
