-- What the census and a run give by the outcome of their chains, and what an accepted run tells.
use mathlib.Core.Path.{◌≡◌, sym, ap, ◌∙◌}
use mathlib.Core.Bool.{Bool, ◌||◌}
use mathlib.Core.List.{[]}
use Prim.Native.Nat.{ℕ, ◌^◌, ◌≤◌, ◌<◌}
use lib.Dec.{leb, ltb, nltb→le, nleb→lt}
use Rattle.lists.proofs.Tests.{of_nor}
use Rattle.ruler.specs.Ruler.{Scale}
use Rattle.layout.specs.declared.Refusal.{Refusal}
use Rattle.layout.specs.declared.Refusal.TheVariants.{NoSuchSlot}
use Rattle.layout.specs.Outcomes.{Outcome, Accepted, Refused}
use Rattle.layout.specs.Stored.{partitions_at}
use Rattle.layout.specs.Words.{Index}
use Rattle.layout.specs.Answers.{last_subdivision, subdivision_numbered, census, run_words, run_from}
use Rattle.layout.specs.Refusals.{refuse, no_such_slot, table_of, check_outcome, run_outcome}
use Rattle.layout.specs.Calls.{if_accepted, no_census, census_of, run_of, run_from_of}
use Rattle.layout.proofs.Chains.{refuse_no}
use Rattle.layout.proofs.Indexes.{Indexed}
use Rattle.layout.proofs.EditsBuild.{of_index_tests}
use Rattle.layout.proofs.Checked.{refused_for_all, passed}

-- what is given where the outcome o is accepted, and where it is refused
if_accepted_lem : {A : Type 0} (o : Outcome) (given else : A) → o ≡ Accepted → if_accepted o given else ≡ given
unfolding if_accepted
if_accepted_lem o given else e = rw e

if_refused : {A : Type 0} (o : Outcome) (given else : A) (why : Refusal) (d : ℕ) → o ≡ Refused why d → if_accepted o given else ≡ else
unfolding if_accepted
if_refused o given else why d e = rw e

-- ---- the census, by the outcome of the check

module _ (s : Scale) (x : Index) where
  pub census-accepted : check_outcome s x ≡ Accepted → census_of s x ≡ census s (table_of s x)
  unfolding census_of
  census-accepted e = if_accepted_lem (check_outcome s x) (census s (table_of s x)) no_census e

  pub census_refused : (why : Refusal) (d : ℕ) → check_outcome s x ≡ Refused why d → census_of s x ≡ no_census
  unfolding census_of
  census_refused why d e = if_refused (check_outcome s x) (census s (table_of s x)) no_census why d e

-- ---- a run, by the outcome of its own chain

module _ (s : Scale) (x : Index) (L i d : ℕ) where
  -- the check refuses, or passes and the slot decides
  pub run_unchecked : (why : Refusal) (k : ℕ) → check_outcome s x ≡ Refused why k → run_outcome s x L i d ≡ Refused why k
  unfolding run_outcome
  run_unchecked why k e = refused_for_all s x why k e (refuse (no_such_slot s L i d) NoSuchSlot 0 Accepted)

  pub run_checked : (b : Bool) → check_outcome s x ≡ Accepted → b ≡ no_such_slot s L i d → run_outcome s x L i d ≡ refuse b NoSuchSlot 0 Accepted
  unfolding run_outcome
  run_checked b e p = passed s x e (refuse (no_such_slot s L i d) NoSuchSlot 0 Accepted) ∙ ap (λ (t : Bool). refuse t NoSuchSlot 0 Accepted) (sym p)

  -- an accepted run is one of an index, and names a slot
  pub record Runnable : Type 0 where
    pub is-index : Indexed s x
    pub deep : L ≤ s.m
    pub there : i < 2 ^ L
    pub one_of : d ≤ last_subdivision

  pub of_run : run_outcome s x L i d ≡ Accepted → Runnable
  unfolding run_outcome no_such_slot partitions_at
  of_run e =
      let a = of_index_tests s x _ e in
      let b = (refuse_no _ _ 0 _ a.1).0 in
      let level = of_nor (ltb s.m L) (leb (2 ^ L) i || ltb last_subdivision d) b in
      let place = of_nor (leb (2 ^ L) i) (ltb last_subdivision d) level.1 in
      record {
        is-index = a.0;
        deep = nltb→le s.m L level.0;
        there = nleb→lt (2 ^ L) i place.0;
        one_of = nltb→le last_subdivision d
            place.1;
      }

  pub run-accepted : run_outcome s x L i d ≡ Accepted → run_of s x L i d ≡ run_words s (table_of s x) L i (subdivision_numbered d)
  unfolding run_of
  run-accepted e = if_accepted_lem (run_outcome s x L i d) (run_words s (table_of s x) L i (subdivision_numbered d)) [] e

  pub run_refused : (why : Refusal) (k : ℕ) → run_outcome s x L i d ≡ Refused why k → run_of s x L i d ≡ []
  unfolding run_of
  run_refused why k e = if_refused (run_outcome s x L i d) (run_words s (table_of s x) L i (subdivision_numbered d)) [] why k e

  pub run-from-accepted : run_outcome s x L i d ≡ Accepted → run_from_of s x L i d ≡ run_from s (table_of s x) L i (subdivision_numbered d)
  unfolding run_from_of
  run-from-accepted e = if_accepted_lem (run_outcome s x L i d) (run_from s (table_of s x) L i (subdivision_numbered d)) 0 e

  pub run-from_refused : (why : Refusal) (k : ℕ) → run_outcome s x L i d ≡ Refused why k → run_from_of s x L i d ≡ 0
  unfolding run_from_of
  run-from_refused why k e = if_refused (run_outcome s x L i d) (run_from s (table_of s x) L i (subdivision_numbered d)) 0 why k e
