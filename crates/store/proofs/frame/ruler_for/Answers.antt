-- The two tests in their order.
use Rattle.std.proofs.Common.{◌≡◌, sym, ap, ◌∙◌, arith, Some, None}
use Rattle.std.proofs.lemmas.Result.{err_from_is_err_and}
use Rattle.lists.proofs.Tests.{to_T}
use Rattle.ruler.specs.declared.Numbers.{Numbers}
use Rattle.ruler.specs.Ruler.{scale_of}
use Rattle.ruler.proofs.RulerMade.{judged_good, judged_out}
use Rattle.ruler.proofs.Fair.{scale-good}
use Rattle.layout.specs.declared.Refusal.TheVariants.{RulerOutOfBounds}
use Rattle.layout.specs.Outcomes.{Accepted}
use Rattle.layout.specs.Words.{directory_length}
use Rattle.layout.proofs.FrameTests.{frame_pass, frame_bounds, frame_length}
use Rattle.layout.proofs.RulerIf.{refuses, gives_ruler}
use Rattle.store.specs.Framing.{framed_of}
use Rattle.layout.proofs.RulerCells.{deep-ruler}
use Rattle.store.proofs.frame.ruler_for.Goals as goal

pub returns-in_err-ruler : goal.returns-in_err-ruler
unfolding framed_of
returns-in_err-ruler c =
    let none : c.new.result ≡ None = grind arith in
    let why = err_from_is_err_and c.from_residual.result c.from_residual.ensures.1 in
    let which : c.in_err-ruler.field-0.0 ≡ RulerOutOfBounds = grind arith in
    rw (why.1, why.2, which) (refuses _ _ 0 (frame_bounds _ _ (scale-good _ ∙ judged_out _ (sym c.new.ensures ∙ none))))

pub directory_length-requires : goal.directory_length-requires
directory_length-requires c = rw c.bottom.ensures (deep-ruler c.in_ok-ruler.ruler)

pub returns-then-directory-directory_length : goal.returns-then-directory-directory_length
unfolding framed_of
returns-then-directory-directory_length c =
    let given : c.new.result ≡ Some c.in_ok-ruler.ruler = grind arith in
    let made = judged_good _ c.in_ok-ruler.ruler (sym c.new.ensures ∙ given) in
    let bottom = c.bottom.ensures ∙ ap (λ (k : Numbers). (scale_of k).m) made.numbers in
    let long = c.directory_length.ensures ∙ ap directory_length bottom in
    refuses _ _ 0 (frame_length _ _ (scale-good _ ∙ made.good) (λ e. c.if-directory-directory_length.true (e ∙ sym long)))

pub returns : goal.returns
unfolding framed_of
returns c =
    let given : c.new.result ≡ Some c.in_ok-ruler.ruler = grind arith in
    let made = judged_good _ c.in_ok-ruler.ruler (sym c.new.ensures ∙ given) in
    let bottom = c.bottom.ensures ∙ ap (λ (k : Numbers). (scale_of k).m) made.numbers in
    let long = c.directory_length.ensures ∙ ap directory_length bottom in
    gives_ruler _ made.numbers (sym (frame_pass _ _ Accepted (to_T (scale-good _ ∙ made.good)) (c.if-directory-directory_length.false ∙ long)))
