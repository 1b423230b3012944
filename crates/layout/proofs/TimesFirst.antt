-- Tests of which 4 and 5 come first, as the code goes through them: by the outcome o of the times, and then by what is left.
use mathlib.Core.Path.{◌≡◌, sym, ap, ◌∙◌}
use Prim.Native.Nat.{ℕ}
use Rattle.ruler.specs.declared.Time.{Time}
use Rattle.ruler.specs.Ruler.{Scale}
use Rattle.std.proofs.Common.{Err}
use Rattle.layout.specs.declared.Rejection.{Rejection}
use Rattle.layout.specs.Outcomes.{Outcome, Accepted}
use Rattle.layout.specs.Refusals.{is_accepted, time_tests}
use Rattle.layout.proofs.Links.{and_then, then_refused, then_accepted, time_then}

module _ (s : Scale) (start end : Time) (k : ℕ) (rest : Outcome) {o : Outcome} (times : o ≡ time_tests s start end k Accepted) where
  splits : time_tests s start end k rest ≡ and_then o rest
  splits = time_then s start end k rest ∙ ap (λ (a : Outcome). and_then a rest) (sym times)

  -- 4 or 5 decides
  pub untimely : (r : Rejection) → o ≡ Err r → o ≡ time_tests s start end k rest
  unfolding is_accepted
  untimely r e = sym (splits ∙ then_refused o rest (rw e))

  -- past them the rest does
  pub timely : o ≡ Accepted → rest ≡ time_tests s start end k rest
  unfolding is_accepted
  timely e = sym (splits ∙ then_accepted o rest (rw e))
