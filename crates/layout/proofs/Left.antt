-- The words that an accepted build, addition or removal leaves are the index of the new table, in buffers of the same lengths.
use Rattle.std.proofs.Common.{Some}
use mathlib.Core.Path.{◌≡◌, refl, sym, ap, subst, ◌∙◌}
use mathlib.Core.Bool.{Bool, true, false, not}
use mathlib.Core.List.{List, ◌++◌, Memᴰ as Mem}
use Prim.Native.Nat.{ℕ, ◌≤◌}
use lib.Dec.{T}
use lib.ListN.{length}
use Rattle.lists.specs.Lists.{over}
use Rattle.lists.proofs.Tests.{to_not-not}
use Rattle.ruler.specs.declared.Numbers.{Numbers}
use Rattle.ruler.specs.Ruler.{Scale, scale_of}
use Rattle.ruler.proofs.Fair.{Fair}
use Rattle.trip.specs.declared.Trip.{Trip}
use Rattle.trip.specs.declared.Asking.{Asking}
use Rattle.trip.specs.declared.Relationship.{Relationship}
use Rattle.trip.specs.Relationships.{named}
use Rattle.layout.specs.Outcomes.{Accepted}
use Rattle.layout.specs.Words.{trip_words, words, rows, Index, lengths_of, layout}
use Rattle.layout.specs.Answers.{matches, answer, question}
use Rattle.layout.specs.Refusals.{has_id, window_tests, build_outcome, IndexOf, table_of, add_outcome, remove_outcome}
use Rattle.layout.specs.Calls.{if_accepted, After, after, leaving, build_of, add_of, without, remove_of, asked, ask_of}
use Rattle.layout.proofs.Rows.{rows_words, words-rows, words_cons}
use Rattle.layout.proofs.Chains.{refuse_pass, of_has_id, has_room}
use Rattle.layout.proofs.Tables.{of_build}
use Rattle.layout.proofs.Indexes.{layout-lengths, given_table, given_indexed, given_fair}
use Rattle.layout.proofs.EditsBuild.{to_index_tests, of_add, in_table, added-is_built, removed-is_built}
use Rattle.layout.proofs.Given.{answer-count, given_outcome, given_asked}

-- words that are the index of the table, in buffers as long as those of x
pub record Left (s : Scale) (x : Index) (table : List ℕ) (y : Index) : Type 0 where
  pub is-index : IndexOf s table y
  pub lengths : lengths_of y ≡ lengths_of x

pub built_left : (s : Scale) (table : List ℕ) (x : Index) → (build_of s table x).outcome ≡ Accepted → Left s x table (build_of s table x).words
unfolding build_of leaving if_accepted
built_left s table x e =
    let t = (of_build s table (lengths_of x) e).0 in
    let l : lengths_of (layout s (rows table) (lengths_of x)) ≡ lengths_of x = layout-lengths s (rows table) (lengths_of x) t.directory t.room in
    rw e (record { is-index = record { accepted = rw l e; words_are = rw l }; lengths = l })

-- and are what build writes there
pub left_built : (s : Scale) (x : Index) (table : List ℕ) (y : Index) → Left s x table y → build_of s table x ≡ after Accepted y
unfolding build_of leaving if_accepted
left_built s x table y l =
    let e : build_outcome s table (lengths_of x) ≡ Accepted = rw l.lengths at l.is-index.accepted in
    let w : y ≡ layout s (rows table) (lengths_of x) = l.is-index.words_are ∙ rw l.lengths in
    rw e (ap (after Accepted) (sym w))

-- a call that is the build of a table leaves its index
as_built : (s : Scale) (table : List ℕ) (x : Index) (a : After) → a.outcome ≡ Accepted → a ≡ build_of s table x → Left s x table a.words
as_built s table x a e b = subst (λ (c : After). Left s x table c.words) (sym b)
    (built_left s table x (ap (λ (c : After). c.outcome) (sym b) ∙ e))

module _ (s : Scale) (fair : Fair s) (table : List ℕ) (x : Index) (g : IndexOf s table x) where
  pub added_built : (t : Trip) → add_outcome s x t ≡ Accepted → add_of s x t ≡ build_of s (trip_words t ++ table) x
  added_built t e =
      let b = of_build s table (lengths_of x) g.accepted in
      let back = words_cons t (rows table) ∙ ap (λ (l : List ℕ). trip_words t ++ l) (words-rows table b.1) in
      rw (← back) (added-is_built s fair x (rows table) b.0 g.words_are t (of_add s x t e))

  pub removed_built : (i : ℕ) → remove_outcome s x i ≡ Accepted → remove_of s x i ≡ build_of s (words (without i (rows table))) x
  removed_built i e = removed-is_built s fair x (rows table) (given_table s table x g) g.words_are i e

  pub added-left : (t : Trip) → add_outcome s x t ≡ Accepted → Left s x (trip_words t ++ table) (add_of s x t).words
  unfolding add_of leaving
  added-left t e = as_built s (trip_words t ++ table) x (add_of s x t) e (added_built t e)

  pub removed-left : (i : ℕ) → remove_outcome s x i ≡ Accepted → Left s x (words (without i (rows table))) (remove_of s x i).words
  unfolding remove_of leaving
  removed-left i e = as_built s (words (without i (rows table))) x (remove_of s x i) e (removed_built i e)

  -- a trip of the table can be taken out
  has_trip : (ts : List Trip) (u : Trip) → Mem u ts → T (has_id u.id ts)
  has_trip ts u m = go (has_id u.id ts) (of_has_id u.id ts)
    where
      go : (b : Bool) → (T (not b) → (v : Trip) → Mem v ts → v.id ≡ u.id → ⊥) → T b
      go true h = tt
      go false h = absurd (h tt u m refl)

  pub remove-accepted : (u : Trip) → Mem u (rows table) → remove_outcome s x u.id ≡ Accepted
  unfolding remove_outcome
  remove-accepted u m =
      let there = in_table s fair x (rows table) (given_table s table x g) g.words_are u m in
      to_index_tests s x _ (given_indexed s fair table x g)
      ∙ refuse_pass _ _ 0 _ (to_not-not (has_id u.id (table_of s x)) (has_trip (table_of s x) u there))

-- ---- a question to the index that a build has left, whatever the buffers

pub built_asked : (n : Numbers) (ts : List Trip) (r : Relationship) (a : Asking) (ids : List ℕ) → named a.code ≡ Some r
    → window_tests (scale_of n) a.window a.day Accepted ≡ Accepted → answer (question r a) ts ≡ ids → (x : Index) (list : List ℕ)
    → (build_of (scale_of n) (words ts) x).outcome ≡ Accepted → length ids ≤ length list
    → ask_of (scale_of n) (build_of (scale_of n) (words ts) x).words a list ≡ asked Accepted (length ids) (over ids list)
built_asked n ts r a ids is on_ruler_lem right x list e room =
    let s = scale_of n in
    let y = (build_of s (words ts) x).words in
    let g = (built_left s (words ts) x e).is-index in
    let f = given_fair n (words ts) y g in
    let q = question r a in
    let of-rows : answer q (rows (words ts)) ≡ ids = rw rows_words right in
    let many : length (matches q (rows (words ts))) ≡ length ids = sym (answer-count q (rows (words ts))) ∙ ap length of-rows in
    let accepted = given_outcome s f (words ts) y g a r is (length list) on_ruler_lem
    ∙ has_room (length (matches q (rows (words ts)))) (length list) (rw many room) in
    rw of-rows at (given_asked s f (words ts) y g a r is list accepted)
