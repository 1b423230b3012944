-- What is known where the words were opened, and where they were refused.
use Rattle.std.proofs.Common.{◌≡◌, refl, sym, ap, true, ◌∙◌, Result, Ok, Err}
use Rattle.lists.proofs.Tests.{of_T}
use Rattle.ruler.specs.declared.Numbers.{Numbers}
use Rattle.ruler.specs.declared.Ruler.{Ruler}
use Rattle.ruler.specs.Ruler.{in_bounds, scale_of}
use Rattle.ruler.specs.Made.{scale, judge}
use Rattle.ruler.proofs.Fair.{scale-good}
use Rattle.layout.specs.declared.Refusal.{Refusal}
use Rattle.layout.specs.Outcomes.{Outcome, Accepted, Refused, ruler_if}
use Rattle.layout.specs.Words.{Index}
use Rattle.layout.specs.Refusals.{is_index, index_tests, check_outcome}
use Rattle.layout.proofs.Indexes.{to_is_index}
use Rattle.layout.proofs.Checked.{refused_for_all, no_detail, checked}
use Rattle.layout.proofs.RulerIf.{ruler_known, ruler_refused}
use Rattle.verify.specs.Opening.{open_of, outcome_of}

-- an index, and the ruler made for it
pub record Open (n : Numbers) (x : Index) (r : Ruler) : Type 0 where
  pub numbers : r.numbers ≡ n
  pub passes : check_outcome (scale r) x ≡ Accepted
  pub is-index : is_index (scale r) x ≡ true

module _ (n : Numbers) (x : Index) where
  good : check_outcome (scale_of n) x ≡ Accepted → in_bounds n ≡ true
  good p = sym (scale-good n) ∙ of_T (scale_of n).good (checked (scale_of n) x p).table.good

  -- by the outcome of the check
  pub opened_as_lem : {o : Outcome} → o ≡ check_outcome (scale_of n) x → ruler_if (judge n) o ≡ open_of n x
  unfolding open_of
  opened_as_lem e = ap (ruler_if (judge n)) e

  known : (r : Ruler) → r.numbers ≡ n → check_outcome (scale_of n) x ≡ Accepted → Open n x r
  known r same p = record {
    numbers = same;
    passes = rw same p;
    is-index = rw same (of_T (is_index (scale_of n) x) (to_is_index (scale_of n) x (checked (scale_of n) x p)));
  }

  -- where there is a ruler, the words are an index of it
  pub opened : (r : Ruler) {o : Result Ruler Refusal} → o ≡ open_of n x → o ≡ Ok r → Open n x r
  unfolding open_of
  opened r e q =
      let made = ruler_known n (check_outcome (scale_of n) x) r (sym e ∙ q) in
      known r made.0.numbers made.1

  -- and where there is none, every call on these words is refused so
  pub shut : (why : Refusal) {o : Result Ruler Refusal} → o ≡ open_of n x → o ≡ Err why → check_outcome (scale_of n) x ≡ Refused why 0
  unfolding open_of
  shut why e q = ruler_refused n (check_outcome (scale_of n) x) why good (no_detail (scale_of n) x) (sym e ∙ q)

  pub shut_for_all : (why : Refusal) {o : Result Ruler Refusal} → o ≡ open_of n x → o ≡ Err why → (rest : Outcome) → index_tests (scale_of n) x rest ≡ Refused why 0
  shut_for_all why e q rest = refused_for_all (scale_of n) x why 0 (shut why e q) rest

  -- the outcome that is told is the check's
  pub told : outcome_of (open_of n x) ≡ check_outcome (scale_of n) x
  unfolding outcome_of
  told = go (open_of n x) refl
    where
      go : (o : Result Ruler Refusal) → o ≡ open_of n x → outcome_of o ≡ check_outcome (scale_of n) x
      go (Ok r) e = let known = opened r e refl in sym (rw known.numbers at known.passes)
      go (Err why) e = sym (shut why e refl)
