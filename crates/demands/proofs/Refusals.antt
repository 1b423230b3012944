-- Demand 1: "Every public entry looks at its own input and refuses with a number; a refusal changes no word." (That every entry is settled on every
-- input is proofs/Settled.antt; that none faults and all end is what the checker proves of each function.) A result is given by what the public
-- contracts say of it, and by nothing else: `build_of`, `add_of`, `remove_of`, `ask_of`, `census_of` and `run_of` (layout/specs/Calls.antt) are the
-- right-hand sides of their equations.
use Rattle.std.proofs.Common.{Err, Ok}
use mathlib.Core.Path.{◌≡◌, sym, ◌∙◌}
use mathlib.Core.Logic.{◌↔◌}
use mathlib.Core.Bool.{false}
use mathlib.Core.List.{List, []}
use Prim.Native.Nat.{ℕ, ◌≤◌}
use native.Mathlib.Omega.{arith}
use lib.Dec.{T}
use lib.ListN.{length}
use Rattle.lists.proofs.Tests.{of_T, of_no_T}
use Rattle.ruler.specs.declared.Numbers.{Numbers}
use Rattle.ruler.specs.Ruler.{in_bounds, scale_of}
use Rattle.ruler.proofs.Fair.{scale-good, scale-m}
use Rattle.trip.specs.declared.Trip.{Trip}
use Rattle.trip.specs.declared.Asking.{Asking}
use Rattle.layout.specs.declared.Refusal.{Refusal}
use Rattle.layout.specs.declared.Refusal.TheVariants.{RulerOutOfBounds, TableSize, DirectoryLength, OffRuler, Backward, IdTaken, NoRoom, NotAnIndex, NoRelationship, NoSuchId, NoSuchSlot, NoDays, NoSuchDay}
use Rattle.layout.specs.Outcomes.{Outcome, Accepted, Refused}
use Rattle.layout.specs.Words.{directory_length, partitions_holding, Index}
use Rattle.layout.specs.Refusals.{refusal_number, number_of, refuse, time_tests, row_tests_by, row_tests, window_tests, question_tests, room_test, IndexOfSome, is_index, index_tests, add_outcome, remove_outcome, ask_outcome, run_outcome, check_outcome}
use Rattle.layout.specs.Calls.{if_accepted, leaving, build_of, add_of, remove_of, ask_of, census_of, no_census, run_of}
use Rattle.layout.proofs.MostPartitions.{deepest_most}
use Rattle.layout.proofs.Chains.{refused_not}
use Rattle.layout.proofs.Indexes.{to_is_index, given_indexed, given_fair, index_of_some}
use Rattle.layout.proofs.EditsBuild.{to_index_tests}
use Rattle.layout.proofs.Checked.{checked, check-words, eight_not-later, other_link}

-- ---- "A refusal .. every buffer stays as found"

module _ (n : Numbers) (x : Index) (why : Refusal) (d : ℕ) where
  refused_leaves : (o : Outcome) (y : Index) → o ≡ Refused why d → (leaving o x y).words ≡ x
  unfolding leaving if_accepted
  refused_leaves o y e = rw e

  pub build_refused : (table : List ℕ) → (build_of (scale_of n) table x).outcome ≡ Refused why d → (build_of (scale_of n) table x).words ≡ x
  unfolding build_of leaving
  build_refused table e = refused_leaves _ _ e

  pub add_refused : (t : Trip) → (add_of (scale_of n) x t).outcome ≡ Refused why d → (add_of (scale_of n) x t).words ≡ x
  unfolding add_of leaving
  add_refused t e = refused_leaves _ _ e

  pub remove_refused : (i : ℕ) → (remove_of (scale_of n) x i).outcome ≡ Refused why d → (remove_of (scale_of n) x i).words ≡ x
  unfolding remove_of leaving
  remove_refused i e = refused_leaves _ _ e

  -- "any count that a refused call gives is 0", and the answer list is as found
  pub ask_refused : (q : Asking) (list : List ℕ) → (ask_of (scale_of n) x q list).outcome ≡ Refused why d
      → ((ask_of (scale_of n) x q list).count ≡ 0) × ((ask_of (scale_of n) x q list).answers ≡ list)
  unfolding ask_of if_accepted
  ask_refused q list e = (rw e, rw e)

  -- "A refused run shows an empty part; a refused census is all zeros."
  pub run_refused : (L i s : ℕ) → run_outcome (scale_of n) x L i s ≡ Refused why d → run_of (scale_of n) x L i s ≡ []
  unfolding run_of if_accepted
  run_refused L i s e = rw e

  pub census_refused : check_outcome (scale_of n) x ≡ Refused why d → census_of (scale_of n) x ≡ no_census
  unfolding census_of if_accepted
  census_refused e = rw e

-- ---- no refusal for a trip's partitions (document 02, T-06)

-- "By document 01's bounds on m no trip can meet it": for a ruler in bounds no trip lies in more than 18 partitions. (For any scale, by its m, and that
-- some trips lie in as many: `most_partitions_lem` and `most_reached` in layout/proofs/MostPartitions.antt.)
pub eighteen_at_most : (n : Numbers) → T (in_bounds n) → (t : Trip) → partitions_holding (scale_of n) t ≤ 18
eighteen_at_most n h t = deepest_most (scale_of n) t (scale-m n h)

-- "The number isn't used again.": no outcome of any call has it
pub no_eleven : (o : Outcome) → number_of o ≡ 11 → ⊥
no_eleven (Ok _) e = omega arith
no_eleven (Err r) e = other r.refusal e
  where
    other : (why : Refusal) → refusal_number why ≡ 11 → ⊥
    other RulerOutOfBounds e = omega arith
    other TableSize e = omega arith
    other DirectoryLength e = omega arith
    other OffRuler e = omega arith
    other Backward e = omega arith
    other IdTaken e = omega arith
    other NoRoom e = omega arith
    other NotAnIndex e = omega arith
    other NoRelationship e = omega arith
    other NoSuchId e = omega arith
    other NoSuchSlot e = omega arith
    other NoDays e = omega arith
    other NoSuchDay e = omega arith

-- ---- 8 "directory and arenas aren't the index of any table for this ruler and these lengths (a table means one that build accepts)"

module _ (n : Numbers) (x : Index) where
  -- the tests 1, 3, 8 pass exactly where the words are the index of some table
  pub index-exactly : (check_outcome (scale_of n) x ≡ Accepted) ↔ IndexOfSome (scale_of n) x
  unfolding check_outcome
  index-exactly = (
    (λ e. index_of_some (scale_of n) x (to_is_index (scale_of n) x (checked (scale_of n) x e))),
    λ g. to_index_tests (scale_of n) x Accepted (given_indexed (scale_of n) (given_fair n g.table x g.its_index) g.table x g.its_index),
  )

  -- past 1 and 3, the number is 8 exactly where they are the index of none: of the check (and so of the census), and of each call
  module _ (good : T (in_bounds n)) (long : length x.directory ≡ directory_length (scale_of n).m) where
    pub eight_exactly : (check_outcome (scale_of n) x ≡ Refused NotAnIndex 0) ↔ (IndexOfSome (scale_of n) x → ⊥)
    unfolding refuse
    eight_exactly = (
      (λ e g. refused_not NotAnIndex 0 (sym e ∙ index-exactly.1 g)),
      λ none.
          let no = of_no_T (is_index (scale_of n) x) (λ t. none (index_of_some (scale_of n) x t)) in
          sym (check-words (scale_of n) x false (scale-good n ∙ of_T (in_bounds n) good) long no),
    )

    of_call : (rest : Outcome) → (number_of rest ≡ refusal_number NotAnIndex → ⊥)
        → (index_tests (scale_of n) x rest ≡ Refused NotAnIndex 0) ↔ (IndexOfSome (scale_of n) x → ⊥)
    of_call rest other =
        let h = eight_not-later (scale_of n) x rest other in
        ((λ e. eight_exactly.0 (h.0 e)), λ none. h.1 (eight_exactly.1 none))

    pub add_eight : (t : Trip) → (add_outcome (scale_of n) x t ≡ Refused NotAnIndex 0) ↔ (IndexOfSome (scale_of n) x → ⊥)
    unfolding add_outcome row_tests row_tests_by time_tests
    add_eight t = of_call _ (other_link _ _ 0 _ (λ e. omega arith)
        (other_link _ _ 0 _ (λ e. omega arith) (other_link _ _ 0 _ (λ e. omega arith) (other_link _ _ 0 _ (λ e. omega arith)
        (other_link _ _ 0 _ (λ e. omega arith) (other_link _ _ 0 _ (λ e. omega arith) (λ e. omega arith)))))))

    pub remove_eight : (i : ℕ) → (remove_outcome (scale_of n) x i ≡ Refused NotAnIndex 0) ↔ (IndexOfSome (scale_of n) x → ⊥)
    unfolding remove_outcome
    remove_eight i = of_call _ (other_link _ _ 0 _ (λ e. omega arith) (λ e. omega arith))

    pub ask_eight : (q : Asking) (room : ℕ) → (ask_outcome (scale_of n) x q room ≡ Refused NotAnIndex 0) ↔ (IndexOfSome (scale_of n) x → ⊥)
    unfolding ask_outcome question_tests window_tests time_tests room_test
    ask_eight q room = of_call _ (other_link _ _ 0 _ (λ e. omega arith) (other_link _ _ 0 _ (λ e. omega arith)
        (other_link _ _ 0 _ (λ e. omega arith) (other_link _ _ 0 _ (λ e. omega arith) (other_link _ _ _ _ (λ e. omega arith) (λ e. omega arith))))))

    pub run_eight : (L i d : ℕ) → (run_outcome (scale_of n) x L i d ≡ Refused NotAnIndex 0) ↔ (IndexOfSome (scale_of n) x → ⊥)
    unfolding run_outcome
    run_eight L i d = of_call _ (other_link _ _ 0 _ (λ e. omega arith) (λ e. omega arith))
