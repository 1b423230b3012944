-- 1 and 3 first, then 8.
use Rattle.std.proofs.Common.{sym, false, true, not, ◌∙◌}
use Rattle.std.proofs.lemmas.Result.{err_from_is_err_and}
use Rattle.ruler.proofs.Fair.{scale-good}
use Rattle.layout.specs.declared.Refusal.TheVariants.{NotAnIndex}
use Rattle.layout.specs.Outcomes.{Accepted}
use Rattle.store.specs.WordsLent.{index_of}
use Rattle.layout.specs.Refusals.{refuse, is_index, check_outcome, index_tests, frame_tests}
use Rattle.ruler.specs.Ruler.{scale_of}
use Rattle.layout.proofs.Checked.{check-words}
use Rattle.layout.proofs.RulerIf.{refuses, gives_ruler}
use Rattle.store.proofs.FrameKnown.{framed_for, framed_none}
use Rattle.verify.specs.Opening.{open_of}
use Rattle.verify.proofs.open.Goals as goal

pub returns-in_err-ruler : goal.returns-in_err-ruler
unfolding open_of check_outcome index_tests frame_tests
returns-in_err-ruler c =
    let why = err_from_is_err_and c.from_residual.result c.from_residual.ensures.1 in
    rw (why.1, why.2) (refuses _ _ 0 (sym (framed_none _ _ _ c.ruler_for.ensures c.in_err-ruler.was (refuse (not (is_index (scale_of c.args.numbers) (index_of c.args.words))) NotAnIndex 0 Accepted))))

pub is_index-requires : goal.is_index-requires
is_index-requires c = (framed_for _ _ c.in_ok-ruler.ruler c.ruler_for.ensures c.in_ok-ruler.was).long

pub returns-then-not-is_index : goal.returns-then-not-is_index
unfolding open_of refuse
returns-then-not-is_index c =
    let w = framed_for _ _ c.in_ok-ruler.ruler c.ruler_for.ensures c.in_ok-ruler.was in
    let refused = rw w.numbers at (sym c.is_index.ensures ∙ c.if-not-is_index.true) in
    refuses _ _ 0 (check-words _ _ false (scale-good _ ∙ w.good) (rw w.numbers at w.long) refused)

pub returns : goal.returns
unfolding open_of refuse
returns c =
    let w = framed_for _ _ c.in_ok-ruler.ruler c.ruler_for.ensures c.in_ok-ruler.was in
    let passed = rw w.numbers at (sym c.is_index.ensures ∙ c.if-not-is_index.false) in
    gives_ruler _ w.numbers (check-words _ _ true (scale-good _ ∙ w.good) (rw w.numbers at w.long) passed)
