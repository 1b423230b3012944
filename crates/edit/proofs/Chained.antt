-- Chains of refusals as the code goes through them: the outcome of each edit on words that are an index, and on words that are none.
use Rattle.std.proofs.Common.{Err, Result}
use mathlib.Core.Path.{◌≡◌, refl, sym, ap, ◌∙◌}
use mathlib.Core.Bool.{Bool, true, false, not, ◌||◌}
use mathlib.Core.List.{◌∷◌}
use Prim.Native.Nat.{ℕ, ◌+◌, ◌-◌, ◌*◌, ◌≤◌, ◌<◌}
use native.Mathlib.Omega.{arith}
use lib.Dec.{ltb, leb}
use lib.ListN.{length, get_or, take}
use borrow.Author.Tests.{le-leb, lt-leb}
use Rattle.ruler.specs.declared.Numbers.{Numbers}
use Rattle.ruler.specs.declared.Ruler.{Ruler}
use Rattle.ruler.specs.Ruler.{Scale, most_trips, scale_of}
use Rattle.ruler.specs.Made.{scale}
use Rattle.trip.specs.declared.Trip.{Trip}
use Rattle.layout.specs.declared.Half.TheVariants.{Originals, Replicas}
use Rattle.layout.specs.declared.Refusal.{Refusal}
use Rattle.layout.specs.declared.Refusal.TheVariants.{TableSize, NoRoom, NoSuchId}
use Rattle.layout.specs.declared.Rejection.{Rejection}
use Rattle.layout.specs.Outcomes.{Outcome, Accepted, Refused, rejection}
use Rattle.layout.specs.Words.{entry_words, rows, partitions, entries, Index, lengths_of, layout}
use Rattle.layout.specs.Refusals.{is_accepted, refuse, full, has_id, no_room, row_tests, table_of, add_outcome, remove_outcome, check_outcome, Fits}
use Rattle.layout.specs.Calls.{after, add_of, remove_of, without}
use Rattle.store.specs.Passes.{most_entries}
use Rattle.store.specs.Halves.{total}
use Rattle.layout.proofs.RulerCells.{last_cell_lem}
use Rattle.store.specs.TripWalk.{slots_of_trip}
use Rattle.layout.proofs.Links.{then_refused, leaves_found, leaves_made, row_then}
use Rattle.layout.proofs.Tables.{RowOk, of_row_tests, to_row_tests}
use Rattle.layout.proofs.Checked.{passed}
use Rattle.store.proofs.TripWalkRoom.{entries-added}
use Rattle.verify.specs.Opening.{open_of}
use Rattle.verify.proofs.Opening.{shut_for_all}
use Rattle.edit.proofs.IndexRead.{Shown, seen, trips_read, rows-read}

-- ---- an addition to words that are an index

-- what the code has read of them
pub record Reading (r : Ruler) (x : Index) (trips copies : ℕ) : Type 0 where
  pub checked : check_outcome (scale r) x ≡ Accepted
  pub shown : Shown (scale r) x
  pub trips-are : trips ≡ length (table_of (scale r) x)
  pub copies-are : copies ≡ length (entries (scale r) Replicas (table_of (scale r) x))

pub reading : (r : Ruler) (x : Index) (m trips copies : ℕ) → check_outcome (scale r) x ≡ Accepted → m ≡ (scale r).m
    → trips ≡ get_or x.directory (2 * partitions m) 0 → copies ≡ total x.directory → Reading r x trips copies
reading r x m trips copies passes e f g =
    let w = seen r x passes in
    record { checked = passes; shown = w; trips-are = trips_read (scale r) x w e f; copies-are = g ∙ w.copies }

module _ (r : Ruler) (x : Index) (t : Trip) (trips copies : ℕ) (w : Reading r x trips copies) where
  abbrev s : Scale
  s = scale r

  -- the chain after the check
  by_size : (b : Bool) → leb most_trips (length (table_of s x)) ≡ b
      → add_outcome s x t ≡ refuse b TableSize 0 (row_tests s (table_of s x) t 0 (refuse (no_room s (t ∷ table_of s x) (lengths_of x)) NoRoom 0 Accepted))
  unfolding add_outcome full
  by_size b e = passed s x w.checked _ ∙ rw e

  pub add-full : most_trips ≤ trips → Refused TableSize 0 ≡ add_outcome s x t
  unfolding refuse
  add-full h = sym (by_size true (le-leb most_trips (length (table_of s x)) (omega (arith, w.trips-are))))

  module _ (few : trips < most_trips) (o : Outcome) (row : o ≡ row_tests s (rows (take (entry_words * trips - 0) x.originals)) t 0 Accepted) where
    not_full : leb most_trips (length (table_of s x)) ≡ false
    not_full = lt-leb most_trips (length (table_of s x)) (omega (arith, w.trips-are))

    -- the row is tested beside the table
    row_is : o ≡ row_tests s (table_of s x) t 0 Accepted
    row_is = rw (rows-read s x w.shown w.trips-are) at row

    -- it is refused
    pub add_row : (v : Rejection) → o ≡ Err v → Err v ≡ add_outcome s x t
    unfolding refuse is_accepted
    add_row v e =
        let row : row_tests s (table_of s x) t 0 Accepted ≡ Err v = sym row_is ∙ e in
        sym (by_size false not_full ∙ row_then s (table_of s x) t 0 _ ∙ then_refused (row_tests s (table_of s x) t 0 Accepted) _ (rw row) ∙ row)

    -- or it is taken, and the room decides, by as many trips and replicas as there are
    module _ (fine : o ≡ Accepted) where
      row_ok : RowOk s (table_of s x) t
      row_ok = (of_row_tests s (table_of s x) t 0 Accepted (sym row_is ∙ fine)).0

      pub row_fits : Fits s t
      row_fits = row_ok.fits

      pub trips_few : trips ≤ most_entries
      trips_few = omega (arith, w.trips-are, w.shown.few)

      pub copies_few : copies ≤ most_entries
      copies_few = omega (arith, w.copies-are, w.shown.few_copies)

      pub add-room : (a b : Bool) → ltb (length x.originals) (entry_words * (trips + length (slots_of_trip s Originals t))) ≡ a
          → ltb (length x.replicas) (entry_words * (copies + length (slots_of_trip s Replicas t))) ≡ b
          → add_outcome s x t ≡ refuse (a || b) NoRoom 0 Accepted
      unfolding refuse no_room lengths_of
      add-room a b p q =
          let inside = last_cell_lem r t row_fits in
          let firsts = entries-added s t inside Originals (table_of s x)
          ∙ ap (λ (n : ℕ). n + length (slots_of_trip s Originals t)) (w.shown.firsts ∙ sym w.trips-are) in
          let others = entries-added s t inside Replicas (table_of s x) ∙ ap (λ (n : ℕ). n + length (slots_of_trip s Replicas t)) (sym w.copies-are) in
          by_size false not_full ∙ to_row_tests s (table_of s x) t 0 _ row_ok ∙ rw (firsts, others, p, q)

-- ---- a removal from words that are an index

pub remove-outcome : (s : Scale) (x : Index) (i : ℕ) (b : Bool) → check_outcome s x ≡ Accepted → has_id i (table_of s x) ≡ b
    → remove_outcome s x i ≡ refuse (not b) NoSuchId 0 Accepted
unfolding remove_outcome
remove-outcome s x i b good e = passed s x good _ ∙ rw e

-- ---- the whole of an edit, from its outcome

pub add_refused : (s : Scale) (x : Index) (t : Trip) (v : Rejection) → Err v ≡ add_outcome s x t → after (Err v) x ≡ add_of s x t
unfolding add_of is_accepted
add_refused s x t v q = leaves_found (Err v) x _ refl q

-- an opening that is refused decides it
pub add_shut : (n : Numbers) (x : Index) (t : Trip) (why : Refusal) {o : Result Ruler Refusal} → o ≡ open_of n x → o ≡ Err why
    → after (Refused why 0) x ≡ add_of (scale_of n) x t
unfolding add_outcome
add_shut n x t why e q = add_refused (scale_of n) x t (rejection why 0) (sym (shut_for_all n x why e q _))

pub add-accepted : (s : Scale) (x y : Index) (t : Trip) → add_outcome s x t ≡ Accepted → y ≡ layout s (t ∷ table_of s x) (lengths_of x)
    → after Accepted y ≡ add_of s x t
unfolding add_of
add-accepted s x y t q e = leaves_made x _ q e

pub remove_refused : (s : Scale) (x : Index) (i : ℕ) (v : Rejection) → Err v ≡ remove_outcome s x i → after (Err v) x ≡ remove_of s x i
unfolding remove_of is_accepted
remove_refused s x i v q = leaves_found (Err v) x _ refl q

pub remove_shut : (n : Numbers) (x : Index) (i : ℕ) (why : Refusal) {o : Result Ruler Refusal} → o ≡ open_of n x → o ≡ Err why
    → after (Refused why 0) x ≡ remove_of (scale_of n) x i
unfolding remove_outcome
remove_shut n x i why e q = remove_refused (scale_of n) x i (rejection why 0) (sym (shut_for_all n x why e q _))

pub remove-accepted : (s : Scale) (x y : Index) (i : ℕ) → remove_outcome s x i ≡ Accepted → y ≡ layout s (without i (table_of s x)) (lengths_of x)
    → after Accepted y ≡ remove_of s x i
unfolding remove_of
remove-accepted s x y i q e = leaves_made x _ q e
