-- How a question ends: refused at a link of its chain, with the list as found, or accepted with the ids in order in its first words.
use Rattle.std.proofs.Common.{Ok, Err}
use mathlib.Core.Path.{◌≡◌, sym, ap, ◌∙◌}
use mathlib.Core.List.{List, ◌++◌}
use Prim.Native.Nat.{ℕ}
use lib.Dec.{leb}
use lib.ListN.{length, take, drop}
use lib.Seq.{take_at, drop_at}
use Rattle.lists.specs.Lists.{ascending, over}
use Rattle.lists.proofs.Members.{length-sort}
use Rattle.ruler.specs.Ruler.{Scale}
use Rattle.trip.specs.declared.Trip.{Trip}
use Rattle.trip.specs.declared.Asking.{Asking}
use Rattle.trip.specs.declared.Question.{Question}
use Rattle.layout.specs.declared.Refusal.{Refusal}
use Rattle.layout.specs.declared.Rejection.{Rejection}
use Rattle.layout.specs.Outcomes.{Outcome, Accepted, Refused, rejection}
use Rattle.layout.specs.Answers.{answer, answer_by, answer_to}
use Rattle.layout.specs.Refusals.{question_tests, room_test, table_of, check_outcome, ask_outcome}
use Rattle.layout.specs.Calls.{if_accepted, ask_of}
use Rattle.ask.specs.Told.{asked_by}
use Rattle.layout.specs.Words.{Index}
use Rattle.layout.proofs.Checked.{refused_for_all, passed}
use Rattle.store.specs.Entries.{ids}
use Rattle.walk.specs.Part.{Listed}
use Rattle.ask.specs.Chain.{answered_as, listed_of, answer_of}
use Rattle.walk.proofs.Written.{ids-length}
use Rattle.ask.proofs.QuestionJudged.{Judged}

-- ---- the two endings

pub ends_refused : (r : Rejection) {o : Outcome} (is list : List ℕ) → o ≡ Err r → asked_by (Err r) list ≡ answered_as o is list
unfolding answered_as if_accepted
ends_refused r is list e = rw e

pub ends-accepted : (is list : List ℕ) {n : ℕ} {new : List ℕ} → room_test (length is) (length list) ≡ Accepted → n ≡ length is → new ≡ over is list
    → asked_by (Ok n) new ≡ listed_of is list
unfolding listed_of answered_as if_accepted
ends-accepted is list e n w = rw (e, n, w)

-- ids listed in the first words of a list, and put in order where they stand
pub sorted_over : (ts : List Trip) {old mid last is : List ℕ} {n k : ℕ} → Listed ts old mid n → k ≡ n → ascending (ids ts) ≡ is
    → last ≡ ascending (take k mid) → last ++ drop k mid ≡ over is old
unfolding over
sorted_over ts {old} {mid} {last} {is} {n} {k} w e a l =
    let c : length (ids ts) ≡ k = ids-length ts ∙ sym (e ∙ w.counted) in
    let size : length is ≡ k = ap length (sym a) ∙ length-sort leb (ids ts) ∙ c in
    let front = ap (take k) w.written ∙ take_at (ids ts) (drop (length (ids ts)) old) k c in
    let back = ap (drop k) w.written ∙ drop_at (ids ts) (drop (length (ids ts)) old) k c in
    rw (l, front, back, a, c, size)

-- ---- 9, 4 and 5

module _ (s : Scale) (ts : List Trip) (q : Asking) (list : List ℕ) where
  pub ends_unfit : (r : Rejection) → ((rest : Outcome) → question_tests s q rest ≡ Err r) → asked_by (Err r) list ≡ answer_of s ts q list
  unfolding answer_of
  ends_unfit r refuses = ends_refused r (answer_to q ts) list (refuses _)

  -- past them the question is one of a window and a relationship
  pub past_chain : (p : Question) → Judged s q p → answer_of s ts q list ≡ listed_of (answer p ts) list
  unfolding answer_of listed_of answer_to answer_by
  past_chain p j =
      rw (j.names, ← j.same)
      (ap (λ (o : Outcome). answered_as o (answer p ts) list) (j.passes (room_test (length (answer p ts)) (length list))))

-- ---- 1, 3, 8

module _ (s : Scale) (x : Index) (q : Asking) (list : List ℕ) where
  pub ends_unchecked : {why : Refusal} → check_outcome s x ≡ Refused why 0 → asked_by (Err (rejection why 0)) list ≡ ask_of s x q list
  unfolding ask_of ask_outcome answered_as
  ends_unchecked {why} e = ends_refused (rejection why 0) (answer_to q (table_of s x)) list (refused_for_all s x why 0 e _)

  pub past_check : check_outcome s x ≡ Accepted → answer_of s (table_of s x) q list ≡ ask_of s x q list
  unfolding ask_of ask_outcome answer_of answered_as
  past_check e = ap (λ (o : Outcome). answered_as o (answer_to q (table_of s x)) list) (sym (passed s x e _))
