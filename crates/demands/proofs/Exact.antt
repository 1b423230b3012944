-- Demand 2: "Exact." Each statement holds for EVERY table that gives the words, `IndexOf`; that the words of an accepted call have one is
-- proofs/Edits.antt. All are over `Numbers`: for the ruler that the call names, of either kind.
use Rattle.std.proofs.Common.{Some}
use mathlib.Core.Path.{◌≡◌, sym, ◌∙◌}
use mathlib.Core.Logic.{◌↔◌}
use mathlib.Core.List.{List, map, Memᴰ as Mem}
use Prim.Native.Nat.{ℕ, ◌≤◌, ◌<◌}
use lib.Dec.{T, leb, ltb}
use lib.ListN.{length}
use Rattle.lists.specs.Lists.{keep, over}
use Rattle.lists.specs.Sifting.{InOrder}
use Rattle.lists.proofs.Tests.{of_and, to_and}
use Rattle.lists.proofs.Members.{of_keep, to_keep, of_sort, to_sort}
use Rattle.lists.proofs.Halving.{in_order}
use Rattle.ruler.specs.declared.Numbers.{Numbers}
use Rattle.ruler.specs.Ruler.{scale_of}
use Rattle.trip.specs.declared.Trip.{Trip}
use Rattle.trip.specs.declared.Asking.{Asking}
use Rattle.trip.specs.declared.Question.{Question}
use Rattle.trip.specs.declared.Relationship.{Relationship}
use Rattle.trip.specs.Relationships.{named, related}
use Rattle.trip.specs.Trips.{runs_on}
use Rattle.layout.specs.declared.Refusal.TheVariants.{NoRoom}
use Rattle.layout.specs.Outcomes.{Accepted, Refused}
use Rattle.layout.specs.Words.{rows, Reordered, Index, lengths_of, layout}
use Rattle.layout.specs.Answers.{matches, answer, question, subdivision_numbered, census, run_words, run_from, matching}
use Rattle.layout.specs.Refusals.{window_tests, IndexOf, run_outcome, check_outcome}
use Rattle.layout.specs.Calls.{if_accepted, leaving, build_of, asked, ask_of, census_of, run_of, run_from_of}
use Rattle.layout.proofs.Chains.{has_room, no_room_lem, of_room, of_no_room_lem}
use Rattle.layout.proofs.Indexes.{given_table, given_indexed, given_fair}
use Rattle.layout.proofs.SortedLists.{id_of, of_ids, to_ids, answer_ascends}
use Rattle.layout.proofs.EditsBuild.{to_index_tests}
use Rattle.layout.proofs.Viewed.{census-accepted, run-accepted, run-from-accepted}
use Rattle.layout.proofs.Given.{given_census, given_run, given_run-from, given_outcome, given_asked}
use Rattle.layout.proofs.Reordered.{reordered_built}

-- ---- "A build lays out exactly the index" of document 01. Where it refuses, and with which number, is `build_outcome` itself.

module _ (n : Numbers) (x : Index) (table : List ℕ) (accepted : (build_of (scale_of n) table x).outcome ≡ Accepted) where
  pub build_exact : (build_of (scale_of n) table x).words ≡ layout (scale_of n) (rows table) (lengths_of x)
  unfolding build_of leaving if_accepted
  build_exact = rw accepted

  -- "So row order in the table has no influence on the index": the same rows in another order are accepted too, and leave the same words
  pub row_order : (other : List ℕ) → Reordered table other → build_of (scale_of n) other x ≡ build_of (scale_of n) table x
  row_order other r = reordered_built (scale_of n) table other r x accepted

-- ---- "A question under any of fourteen relationships lists exactly the right ids, each once, ascending"

module _ (n : Numbers) (x : Index) (table : List ℕ) (g : IndexOf (scale_of n) table x) (q : Asking) (r : Relationship)
    (is : named q.code ≡ Some r) (list : List ℕ) where
  -- the list and its count
  pub ask_exact : (ask_of (scale_of n) x q list).outcome ≡ Accepted → ask_of (scale_of n) x q list
      ≡ asked Accepted (length (answer (question r q) (rows table))) (over (answer (question r q) (rows table)) list)
  unfolding ask_of
  ask_exact accepted = given_asked (scale_of n) (given_fair n table x g) table x g q r is list accepted

  -- each id is below every later one
  pub ask_ascends : InOrder ltb 0 (answer (question r q) (rows table)) (length (answer (question r q) (rows table)))
  ask_ascends = in_order 0 ltb (answer_ascends (question r q) (rows table) (given_table (scale_of n) table x g).rows_ok.distinct)

  -- 7 "matches exceed the answer list (detail: the matches)", of a window that passes 4 and 5 and a day that passes 17
  module _ (on_ruler_lem : window_tests (scale_of n) q.window q.day Accepted ≡ Accepted) where
    pub seven-exactly : (d : ℕ) → ((ask_of (scale_of n) x q list).outcome ≡ Refused NoRoom d)
        ↔ ((d ≡ length (matches (question r q) (rows table))) × (length list < length (matches (question r q) (rows table))))
    unfolding ask_of
    seven-exactly d =
        let k = length (matches (question r q) (rows table)) in
        let o = given_outcome (scale_of n) (given_fair n table x g) table x g q r is (length list) on_ruler_lem in
        ((λ e. of_no_room_lem k (length list) d (sym o ∙ e)), λ h. o ∙ no_room_lem k (length list) h.1 ∙ rw h.0)

    pub accepted-exactly : ((ask_of (scale_of n) x q list).outcome ≡ Accepted) ↔ (length (matches (question r q) (rows table)) ≤ length list)
    unfolding ask_of
    accepted-exactly =
        let k = length (matches (question r q) (rows table)) in
        let o = given_outcome (scale_of n) (given_fair n table x g) table x g q r is (length list) on_ruler_lem in
        ((λ e. of_room k (length list) (sym o ∙ e)), λ h. o ∙ has_room k (length list) h)

-- the right ids are those of the trips that "satisfy it and run that day"
pub right_ids : (q : Question) (ts : List Trip) (i : ℕ) → Mem i (answer q ts) ↔
    ((t : Trip) × Mem t ts × T (related q.relationship q.window t) × T (runs_on q.day t) × (i ≡ t.id))
unfolding answer matches
right_ids q ts i =
    let p = matching q in (
      (λ m.
          let a = of_ids (keep p ts) i (of_sort leb (map id_of (keep p ts)) i m) in
          let b = of_keep p ts a.0 a.1 in
          let c = of_and (related q.relationship q.window a.0) (runs_on q.day a.0) b.1 in
          (a.0, b.0, c.0, c.1, a.2)),
      λ h.
          let both = to_and (related q.relationship q.window h.0) (runs_on q.day h.0) h.2 h.3 in
          to_sort leb (map id_of (keep p ts)) i (rw h.4 (to_ids (keep p ts) h.0 (to_keep p ts h.0 h.1 both))),
    )

-- ---- "Two more readings."

module _ (n : Numbers) (x : Index) (table : List ℕ) (g : IndexOf (scale_of n) table x) where
  -- the census is that of the table's rows
  pub census_exact : census_of (scale_of n) x ≡ census (scale_of n) (rows table)
  unfolding check_outcome
  census_exact =
      let f = given_fair n table x g in
      census-accepted (scale_of n) x (to_index_tests (scale_of n) x Accepted (given_indexed (scale_of n) f table x g))
      ∙ given_census (scale_of n) f table x g

  -- a run is that of the table's rows, and begins where theirs does
  module _ (L i d : ℕ) (accepted : run_outcome (scale_of n) x L i d ≡ Accepted) where
    pub run_exact : run_of (scale_of n) x L i d ≡ run_words (scale_of n) (rows table) L i (subdivision_numbered d)
    run_exact = run-accepted (scale_of n) x L i d accepted ∙ given_run (scale_of n) (given_fair n table x g) table x g L i (subdivision_numbered d)

    pub run-from_exact : run_from_of (scale_of n) x L i d ≡ run_from (scale_of n) (rows table) L i (subdivision_numbered d)
    run-from_exact =
        run-from-accepted (scale_of n) x L i d accepted ∙ given_run-from (scale_of n) (given_fair n table x g) table x g L i (subdivision_numbered d)
