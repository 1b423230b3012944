-- Demand 3: "After each accepted addition or removal every word is what a build for those trips would write": for EVERY table that gives the words
-- before, the call leaves what build leaves for that table with the trip added or taken out. All are over `Numbers`: for the ruler that the call names, of either kind.
use Rattle.std.proofs.Common.{Err, Ok}
use mathlib.Core.Path.{◌≡◌, refl, ◌∙◌}
use mathlib.Core.List.{List, [], ◌∷◌, ◌++◌, Memᴰ as Mem}
use Prim.Native.Nat.{ℕ, ◌≤◌}
use lib.ListN.{length}
use Rattle.ruler.specs.declared.Numbers.{Numbers}
use Rattle.ruler.specs.Ruler.{scale_of}
use Rattle.trip.specs.declared.Trip.{Trip}
use Rattle.layout.specs.declared.Half.{Half}
use Rattle.layout.specs.declared.Refusal.{Refusal}
use Rattle.layout.specs.Outcomes.{Outcome, Accepted, Refused}
use Rattle.layout.specs.Words.{trip_words, words, rows, entries, Index}
use Rattle.layout.specs.Refusals.{row_tests, IndexOf}
use Rattle.layout.specs.Calls.{After, after, if_accepted, leaving, build_of, add_of, without, remove_of}
use Rattle.layout.proofs.Indexes.{given_fair}
use Rattle.layout.proofs.Left.{Left, built_left, left_built, added_built, removed_built, added-left, removed-left, remove-accepted}
use Rattle.store.proofs.RoomFreed.{add-next}
use Rattle.demands.proofs.Refusals.{add_refused, remove_refused}
use Rattle.demands.specs.History.{Edit, Addition, Removal, edit_of, edited_table, words_after, table_after}

-- an accepted build leaves the index of the table given
pub build-index : (n : Numbers) (x : Index) (table : List ℕ) → (build_of (scale_of n) table x).outcome ≡ Accepted
    → IndexOf (scale_of n) table (build_of (scale_of n) table x).words
build-index n x table e = (built_left (scale_of n) table x e).is-index

module _ (n : Numbers) (x : Index) (table : List ℕ) (g : IndexOf (scale_of n) table x) where
  pub add_exact : (t : Trip) → (add_of (scale_of n) x t).outcome ≡ Accepted → add_of (scale_of n) x t ≡ build_of (scale_of n) (trip_words t ++ table) x
  unfolding add_of leaving
  add_exact t e = added_built (scale_of n) (given_fair n table x g) table x g t e

  pub remove_exact : (i : ℕ) → (remove_of (scale_of n) x i).outcome ≡ Accepted → remove_of (scale_of n) x i
      ≡ build_of (scale_of n) (words (without i (rows table))) x
  unfolding remove_of leaving
  remove_exact i e = removed_built (scale_of n) (given_fair n table x g) table x g i e

  add_left : (t : Trip) → (add_of (scale_of n) x t).outcome ≡ Accepted → Left (scale_of n) x (trip_words t ++ table) (add_of (scale_of n) x t).words
  unfolding add_of leaving
  add_left t e = added-left (scale_of n) (given_fair n table x g) table x g t e

  remove-left : (i : ℕ) → (remove_of (scale_of n) x i).outcome ≡ Accepted
      → Left (scale_of n) x (words (without i (rows table))) (remove_of (scale_of n) x i).words
  unfolding remove_of leaving
  remove-left i e = removed-left (scale_of n) (given_fair n table x g) table x g i e

  -- so the words after it are the index of the table with the trip in front, or without the trip
  pub add-index : (t : Trip) → (add_of (scale_of n) x t).outcome ≡ Accepted → IndexOf (scale_of n) (trip_words t ++ table) (add_of (scale_of n) x t).words
  add-index t e = (add_left t e).is-index

  pub remove-index : (i : ℕ) → (remove_of (scale_of n) x i).outcome ≡ Accepted
      → IndexOf (scale_of n) (words (without i (rows table))) (remove_of (scale_of n) x i).words
  remove-index i e = (remove-left i e).is-index

-- ---- each edit of a history, accepted or refused

-- a call that leaves the new table's index where it is accepted, and the words as found where it is refused
either : (n : Numbers) (x : Index) (table : List ℕ) → IndexOf (scale_of n) table x → (a : After) (new : List ℕ)
    → (a.outcome ≡ Accepted → Left (scale_of n) x new a.words) → ((why : Refusal) (d : ℕ) → a.outcome ≡ Refused why d → a.words ≡ x)
    → Left (scale_of n) x (if_accepted a.outcome new table) a.words
unfolding if_accepted
either n x table g a new changes stays = go a.outcome refl
  where
    go : (o : Outcome) → a.outcome ≡ o → Left (scale_of n) x (if_accepted o new table) a.words
    go (Ok _) e = changes e
    go (Err r) e = rw (stays r.refusal r.detail e) (record { is-index = g; lengths = refl })

edit_left : (n : Numbers) (x : Index) (table : List ℕ) → IndexOf (scale_of n) table x → (e : Edit)
    → Left (scale_of n) x (if_accepted (edit_of (scale_of n) x e).outcome (edited_table e table) table) (edit_of (scale_of n) x e).words
unfolding edit_of edited_table
edit_left n x table g (Addition t) =
    either n x table g (add_of (scale_of n) x t) (trip_words t ++ table) (add_left n x table g t) (λ why d e. add_refused n x why d t e)
edit_left n x table g (Removal i) =
    either n x table g (remove_of (scale_of n) x i) (words (without i (rows table))) (remove-left n x table g i)
    (λ why d e. remove_refused n x why d i e)

history_left : (n : Numbers) (x : Index) (table : List ℕ) → IndexOf (scale_of n) table x → (es : List Edit)
    → Left (scale_of n) x (table_after (scale_of n) x es table) (words_after (scale_of n) x es)
unfolding table_after words_after
history_left n x table g [] = record { is-index = g; lengths = refl }
history_left n x table g (e ∷ es) =
    let l = edit_left n x table g e in
    let ih = history_left n (edit_of (scale_of n) x e).words _ l.is-index es in
    record { is-index = ih.is-index; lengths = ih.lengths ∙ l.lengths }

-- after any edits the words are what build writes for the table that the accepted ones made
pub history_exact : (n : Numbers) (x : Index) (table : List ℕ) → IndexOf (scale_of n) table x → (es : List Edit)
    → build_of (scale_of n) (table_after (scale_of n) x es table) x ≡ after Accepted (words_after (scale_of n) x es)
history_exact n x table g es = left_built (scale_of n) x _ _ (history_left n x table g es)

-- and are its index, so that the statements on a question, the census and a run (proofs/Exact.antt) hold of them
pub history_index : (n : Numbers) (x : Index) (table : List ℕ) → IndexOf (scale_of n) table x → (es : List Edit)
    → IndexOf (scale_of n) (table_after (scale_of n) x es table) (words_after (scale_of n) x es)
history_index n x table g es = (history_left n x table g es).is-index

-- ---- "Room freed by a removal serves the next addition."

-- A trip u of the table can be taken out. Then every trip t that passes its own tests (4, 5, 6) beside the trips left, and has no more entries
-- in either half than u had, is accepted: however little room the arenas have.
module _ (n : Numbers) (x : Index) (table : List ℕ) (g : IndexOf (scale_of n) table x) (u : Trip) (there : Mem u (rows table)) where
  pub trip_removed : (remove_of (scale_of n) x u.id).outcome ≡ Accepted
  unfolding remove_of leaving
  trip_removed = remove-accepted (scale_of n) (given_fair n table x g) table x g u there

  pub freed_room : (t : Trip) → row_tests (scale_of n) (without u.id (rows table)) t 0 Accepted ≡ Accepted
      → ((h : Half) → length (entries (scale_of n) h (t ∷ [])) ≤ length (entries (scale_of n) h (u ∷ [])))
      → (add_of (scale_of n) (remove_of (scale_of n) x u.id).words t).outcome ≡ Accepted
  unfolding add_of leaving
  freed_room t ok small = add-next (scale_of n) (given_fair n table x g) table x g u there t ok small
