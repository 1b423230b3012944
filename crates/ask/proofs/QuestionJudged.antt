-- What is known of a question that was judged: 9, 4, 5 and 17 have passed, or they refuse it, whatever comes after them.
use Rattle.std.proofs.Common.{Err, None, Ok, Option, Result, Some}
use mathlib.Core.Path.{◌≡◌, refl, sym, ap, subst, ◌∙◌}
use Prim.Native.Nat.{◌≤◌}
use lib.Dec.{ltb}
use Rattle.lists.proofs.Tests.{to_T}
use Rattle.ruler.specs.Ruler.{Scale}
use Rattle.trip.specs.declared.Asking.{Asking}
use Rattle.trip.specs.declared.Question.{Question}
use Rattle.trip.specs.declared.Relationship.{Relationship}
use Rattle.trip.specs.Relationships.{last_code, named}
use Rattle.trip.specs.Trips.{last_day}
use Rattle.trip.proofs.Naming.{nothing_above, named-within}
use Rattle.layout.specs.declared.Rejection.{Rejection}
use Rattle.layout.specs.declared.Refusal.TheVariants.{NoRelationship}
use Rattle.layout.specs.Outcomes.{Outcome, Accepted, rejection}
use Rattle.layout.specs.Answers.{question}
use Rattle.layout.specs.Refusals.{refuse, no_such_code, OnRuler, window_tests, question_tests}
use Rattle.layout.proofs.Chains.{refuse_pass, refuse_taken, window_on, window_pass, window_refused}
use Rattle.ask.specs.QuestionJudged.{judged_as, judged_of}

-- the question p is q judged
pub record Judged (s : Scale) (q : Asking) (p : Question) : Type 0 where
  pub names : named q.code ≡ Some p.relationship
  pub same : p ≡ question p.relationship q
  pub on_ruler_lem : OnRuler s p.window.start p.window.end × (p.day ≤ last_day)
  pub passes : (rest : Outcome) → question_tests s q rest ≡ rest

module _ (s : Scale) (q : Asking) where
  -- by what its code names and by what 4 and 5 say
  passed : (r : Relationship) → named q.code ≡ Some r → window_tests s q.window q.day Accepted ≡ Accepted → Judged s q (question r q)
  unfolding question_tests no_such_code
  passed r is on = record {
    names = is;
    same = refl;
    on_ruler_lem = window_on s q.window q.day Accepted on;
    passes = λ rest. refuse_pass _ _ 0 _ (rw (named-within q.code is) tt) ∙ window_pass s q.window q.day rest on;
  }

  pub judged_fit : (p : Question) {j : Result Question Rejection} → j ≡ judged_of s q → j ≡ Ok p → Judged s q p
  unfolding judged_of judged_as
  judged_fit p e f = go (named q.code) (window_tests s q.window q.day Accepted) refl refl (sym e ∙ f)
    where
      go : (n : Option Relationship) (times : Outcome) → named q.code ≡ n → window_tests s q.window q.day Accepted ≡ times → judged_as n times q ≡ Ok p
          → Judged s q p
      go (Some r) (Ok _) is on h = let same : question r q ≡ p = cc in subst (Judged s q) same (passed r is on)
      go (Some r) (Err w) is on h = absurd cc
      go None times is on h = absurd cc

  -- with detail 0, as document 01 names none for 9, 4, 5 and 17
  pub judged_unfit : (w : Rejection) {j : Result Question Rejection} → j ≡ judged_of s q → j ≡ Err w → (rest : Outcome)
      → (question_tests s q rest ≡ Err w) × (w.detail ≡ 0)
  unfolding judged_of judged_as question_tests no_such_code
  judged_unfit w e f rest = go (named q.code) (window_tests s q.window q.day Accepted) refl refl (sym e ∙ f)
    where
      go : (n : Option Relationship) (times : Outcome) → named q.code ≡ n → window_tests s q.window q.day Accepted ≡ times → judged_as n times q ≡ Err w
          → (refuse (ltb last_code q.code) NoRelationship 0 (window_tests s q.window q.day rest) ≡ Err w) × (w.detail ≡ 0)
      go (Some r) (Ok _) is on h = absurd cc
      go (Some r) (Err v) is on h =
          let same : v ≡ w = cc in
          let refused = window_refused s q.window q.day v rest on in
          (refuse_pass _ _ 0 _ (rw (named-within q.code is) tt) ∙ refused.0 ∙ ap Err same, ap (λ (x : Rejection). x.detail) (sym same) ∙ refused.1)
      go None times is on h =
          let same : rejection NoRelationship 0 ≡ w = cc in
          (refuse_taken (ltb last_code q.code) NoRelationship 0 _ (to_T (nothing_above q.code is)) ∙ ap Err same, ap (λ (x : Rejection). x.detail) (sym same))
