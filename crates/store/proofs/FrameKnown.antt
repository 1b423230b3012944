-- What is known where there is a ruler with a directory of its length, and where there is none.
use Rattle.std.proofs.Common.{◌≡◌, ℕ, sym, true, ◌∙◌, Result, Ok, Err}
use Rattle.lists.proofs.Tests.{of_T}
use Rattle.ruler.specs.declared.Numbers.{Numbers}
use Rattle.ruler.specs.declared.Ruler.{Ruler}
use Rattle.ruler.specs.Ruler.{in_bounds, scale_of}
use Rattle.ruler.specs.Made.{scale}
use Rattle.ruler.proofs.Fair.{scale-good}
use Rattle.layout.specs.declared.Refusal.{Refusal}
use Rattle.layout.specs.Outcomes.{Outcome, Accepted, Refused}
use Rattle.layout.specs.Words.{directory_length}
use Rattle.layout.specs.Refusals.{frame_tests}
use Rattle.layout.proofs.FrameTests.{of_frame, frame_refused, frame_detail}
use Rattle.layout.proofs.RulerIf.{ruler_known, ruler_refused}
use Rattle.store.specs.Framing.{framed_of}

-- numbers, the length of a directory, and the ruler for them
pub record Frame (n : Numbers) (k : ℕ) (r : Ruler) : Type 0 where
  pub numbers : r.numbers ≡ n
  pub good : in_bounds n ≡ true
  pub long : k ≡ directory_length (scale r).m
  pub passes : frame_tests (scale_of n) k Accepted ≡ Accepted

module _ (n : Numbers) (k : ℕ) where
  -- there is a ruler where both tests accept
  pub framed_for : (r : Ruler) {f : Result Ruler Refusal} → f ≡ framed_of n k → f ≡ Ok r → Frame n k r
  unfolding framed_of
  framed_for r e q =
      let known = ruler_known n (frame_tests (scale_of n) k Accepted) r (sym e ∙ q) in
      record {
        numbers = known.0.numbers;
        good = known.0.good;
        long = rw known.0.numbers (of_frame (scale_of n) k Accepted known.1).1;
        passes = known.1;
      }

  -- the refusal stands for every call on them, with detail 0
  pub framed_none : (why : Refusal) {f : Result Ruler Refusal} → f ≡ framed_of n k → f ≡ Err why → (rest : Outcome)
      → frame_tests (scale_of n) k rest ≡ Refused why 0
  unfolding framed_of
  framed_none why e q rest =
      let good = λ (p : frame_tests (scale_of n) k Accepted ≡ Accepted). sym (scale-good n) ∙ of_T _ (of_frame (scale_of n) k Accepted p).0 in
      frame_refused (scale_of n) k why 0 (ruler_refused n _ why good (frame_detail (scale_of n) k) (sym e ∙ q)) rest
