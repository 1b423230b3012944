-- The tests of a table's rows, as the loops over the rows make them, and the room that its entries need.
use mathlib.Core.Path.{◌≡◌, sym, ap, ap₂, ◌∙◌}
use mathlib.Core.Bool.{true, false, ◌||◌}
use mathlib.Core.List.Memᴰ.{head as here}
use mathlib.Core.List.Memᴰ.{not-nil}
use mathlib.Core.List.Memᴰ.{tail as there}
use mathlib.Core.List.{List, ◌∷◌, Memᴰ as Mem}
use Prim.Native.Nat.{ℕ, zero, suc, ◌+◌, ◌-◌, ◌*◌, ◌/◌, ◌≤◌, ◌<◌}
use native.Mathlib.Numerals.{add-one}
use native.Mathlib.Omega.{arith}
use lib.Dec.{ltb, eqb}
use lib.ListN.{length, get_or, drop, drop_of_length-le}
use lib.Seq.{drop-cons}
use Rattle.lists.proofs.Tests.{to_T, of_not_T}
use Rattle.lists.proofs.Members.{none, more}
use Rattle.lists.proofs.Halving.{at_mem}
use Rattle.lists.specs.Lists.{sum_over}
use Rattle.ruler.specs.declared.Ruler.{Ruler}
use Rattle.ruler.specs.Ruler.{Scale}
use Rattle.ruler.specs.Made.{scale}
use Rattle.trip.specs.declared.Trip.{Trip}
use Rattle.layout.specs.declared.Half.TheVariants.{Originals, Replicas}
use Rattle.layout.specs.Outcomes.{Accepted}
use Rattle.layout.specs.Words.{entry_words, trip_at, rows, partitions_holding, entries}
use Rattle.layout.specs.Refusals.{has_id, no_room, row_tests, first_bad_row}
use Rattle.layout.proofs.RowOrder.{OtherId, Distinct, length-same}
use Rattle.layout.proofs.Rows.{length-rows, get_or_rows}
use Rattle.layout.proofs.Chains.{to_has_id}
use Rattle.layout.proofs.SlotMembers.{of_originals_lem, to_originals, originals_distinct}
use Rattle.layout.proofs.RulerCells.{fair_ruler}
use Rattle.layout.proofs.Links.{and_then, row_then}
use Rattle.layout.proofs.Counted.{all_entries}
use Rattle.store.specs.Ordered.{no_trip}
use Rattle.store.specs.Ids.{ids_differ}
use Rattle.store.proofs.Differing.{of_ids_differ}
use Rattle.build.specs.HalfBuilt.{Tested}
use Rattle.build.specs.RowsJudged.{rows_back, lengths}

-- ---- the ids of the rows before a row

pub before_turn : (table : List ℕ) (x j : ℕ) → 0 < j
    → has_id x (rows_back table j) ≡ eqb (trip_at table (j - 1)).id x || has_id x (rows_back table (j - 1))
unfolding has_id
before_turn table x j h = let e : j ≡ suc (j - 1) = omega arith in ap (λ (k : ℕ). has_id x (rows_back table k)) e

of_back : (table : List ℕ) (i : ℕ) (u : Trip) → Mem u (rows_back table i) → (j : ℕ) × (j < i) × (u ≡ trip_at table j)
of_back table zero u m = absurd (not-nil m)
of_back table (suc i) u (here e) = (i, omega arith, e)
of_back table (suc i) u (there m) = let w = of_back table i u m in (w.0, omega (arith, w.1), w.2)

distinct_at : {ts : List Trip} → Distinct ts → (j i : ℕ) → j < i → i < length ts → OtherId (get_or ts j no_trip) (get_or ts i no_trip)
distinct_at none j i h g = absurd (omega arith)
distinct_at (more a d) j zero h g = absurd (omega arith)
distinct_at (more {l = l} a d) zero (suc i) h g = a (get_or l i no_trip) (at_mem no_trip l i (omega arith))
distinct_at (more a d) (suc j) (suc i) h g = distinct_at d j i (omega arith) (omega arith)

-- where no id stands twice, no row before row i has its id
pub before-none : (table : List ℕ) (i x : ℕ) → i < length table / entry_words → x ≡ (trip_at table i).id → ids_differ (rows table) ≡ true
    → has_id x (rows_back table i) ≡ false
before-none table i x h e differ =
    let d = of_ids_differ (rows table) (to_T differ) in
    of_not_T _ (to_has_id x (rows_back table i) (λ u m q.
    let w = of_back table i u m in
    let there-is : get_or (rows table) w.0 no_trip ≡ u = get_or_rows table w.0 no_trip (omega (arith, w.1)) ∙ sym w.2 in
    let here-is : get_or (rows table) i no_trip ≡ trip_at table i = get_or_rows table i no_trip h in
    distinct_at d w.0 i w.1 (rw length-rows h)
    (ap (λ (t : Trip). t.id) there-is ∙ q ∙ e ∙ sym (ap (λ (t : Trip). t.id) here-is))))

-- ---- the first bad row

pub rows_turn : (s : Scale) (table : List ℕ) (i : ℕ) → i < length table / entry_words
    → first_bad_row s i (rows_back table i) (drop i (rows table)) Accepted
    ≡ and_then (row_tests s (rows_back table i) (trip_at table i) i Accepted)
    (first_bad_row s (i + 1) (rows_back table (i + 1)) (drop (i + 1) (rows table)) Accepted)
unfolding first_bad_row
rows_turn s table i h =
    let t = trip_at table i in
    let split : drop i (rows table) ≡ t ∷ drop (suc i) (rows table) =
    drop-cons (rows table) i no_trip (rw length-rows h) ∙ ap (λ (u : Trip). u ∷ drop (suc i) (rows table)) (get_or_rows table i no_trip h) in
    rw (add-one i)
    (ap (λ (x : List Trip). first_bad_row s i (rows_back table i) x Accepted) split
    ∙ row_then s (rows_back table i) t i (first_bad_row s (suc i) (t ∷ rows_back table i) (drop (suc i) (rows table)) Accepted))

pub rows_end : (s : Scale) (table : List ℕ) (i : ℕ) → length table / entry_words ≤ i
    → first_bad_row s i (rows_back table i) (drop i (rows table)) Accepted ≡ Accepted
unfolding first_bad_row
rows_end s table i h =
    ap (λ (x : List Trip). first_bad_row s i (rows_back table i) x Accepted) (drop_of_length-le (rows table) {i = i} (rw length-rows h))

-- ---- the room

module _ (r : Ruler) (table : List ℕ) (w : Tested r table) where
  -- one original for each row
  pub originals_are : length (entries (scale r) Originals (rows table)) ≡ length table / entry_words
  originals_are =
      let f = fair_ruler r in
      let ok = w.rows_ok in
      length-same (entries (scale r) Originals (rows table)) (rows table) (originals_distinct (scale r) f (rows table) ok.fits ok.distinct)
      ok.distinct
      (of_originals_lem (scale r) f (rows table) ok.fits ok.distinct) (to_originals (scale r) f (rows table) ok.fits ok.distinct)
      ∙ length-rows table

  module _ (n all : ℕ) (e : n ≡ length table / entry_words) (f : all ≡ sum_over (partitions_holding (scale r)) (rows table)) where
    pub rows-within : n ≤ all
    rows-within = omega (arith, originals_are, all_entries (scale r) (rows table))

    pub room-tested : (originals replicas : ℕ)
        → ltb originals (entry_words * n) || ltb replicas (entry_words * (all - n)) ≡ no_room (scale r) (rows table) (lengths 0 originals replicas)
    unfolding no_room
    room-tested originals replicas =
        let o : n ≡ length (entries (scale r) Originals (rows table)) = omega (arith, originals_are) in
        let p : all - n ≡ length (entries (scale r) Replicas (rows table)) = omega (arith, originals_are, all_entries (scale r) (rows table)) in
        ap₂ (λ (x y : ℕ). ltb originals (entry_words * x) || ltb replicas (entry_words * y)) o p
