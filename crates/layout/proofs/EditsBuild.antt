-- Edits as laws on the definitions: what an accepted edit tells, that the words after it are again an index, and that they are what a build
-- writes for ANY table that gives the words before.
use mathlib.Core.Path.{◌≡◌, refl, sym, ap, ◌∙◌}
use mathlib.Core.Bool.{not}
use mathlib.Core.List.Memᴰ.{head as here}
use mathlib.Core.List.Memᴰ.{not-nil}
use mathlib.Core.List.Memᴰ.{tail as there}
use mathlib.Core.List.{List, [], ◌∷◌, Memᴰ as Mem}
use Prim.Native.Nat.{ℕ, ◌≤◌, ◌<◌}
use native.Mathlib.Omega.{arith}
use native.Mathlib.Nat.{le_trans}
use lib.Dec.{T, eqb, eqb→eq, eqb_refl, nleb→lt, T_not, not_T}
use lib.Arith.{lt→nleb}
use lib.ListN.{length}
use Rattle.lists.proofs.Tests.{of_not_not, to_not-not}
use Rattle.lists.proofs.Members.{In, more, keep-length, keep_shorter, of_keep, to_keep, keep_in, pairs_keep}
use Rattle.ruler.specs.Ruler.{Scale, most_trips}
use Rattle.ruler.proofs.Fair.{Fair}
use Rattle.trip.specs.declared.Trip.{Trip}
use Rattle.layout.specs.declared.Half.TheVariants.{Originals, Replicas}
use Rattle.layout.specs.declared.Refusal.TheVariants.{TableSize}
use Rattle.layout.specs.Outcomes.{Outcome, Accepted, Refused}
use Rattle.layout.specs.Words.{words, Index, Lengths, lengths_of, layout}
use Rattle.layout.specs.Refusals.{full, has_id, table_of, is_index, index_tests, add_outcome, remove_outcome}
use Rattle.layout.specs.Calls.{after, build_of, add_of, without, remove_of}
use Rattle.layout.proofs.Links.{leaves_made}
use Rattle.layout.proofs.RowOrder.{Distinct, layout-same, entries-same}
use Rattle.layout.proofs.Rows.{rows_words, words_le}
use Rattle.layout.proofs.Chains.{Room, refuse_no, refuse_pass, refuse_taken, to_out_of_bounds, to_bad_directory, of_no_room, to_no_room}
use Rattle.layout.proofs.SortedLists.{entries-without}
use Rattle.layout.proofs.Tables.{RowOk, of_row_tests, to_row_tests, RowsOk, rows_more, Table, to_build}
use Rattle.layout.proofs.Indexes.{layout-lengths, Indexed, of_is_index, to_is_index, table_again, indexed, back_in, in_back, back_length}

-- ---- the tests 1, 3, 8 of a call on an index

pub of_index_tests : (s : Scale) (x : Index) (rest : Outcome) → index_tests s x rest ≡ Accepted → Indexed s x × (rest ≡ Accepted)
unfolding index_tests
of_index_tests s x rest e =
    let a = refuse_no _ _ 0 _ e in
    let b = refuse_no _ _ 0 _ a.1 in
    let c = refuse_no _ _ 0 _ b.1 in
    (of_is_index s x (of_not_not (is_index s x) c.0), c.1)

pub to_index_tests : (s : Scale) (x : Index) (rest : Outcome) → Indexed s x → index_tests s x rest ≡ rest
unfolding index_tests lengths_of
to_index_tests s x rest h =
    refuse_pass _ _ 0 _ (to_out_of_bounds s h.table.good)
    ∙ refuse_pass _ _ 0 _ (to_bad_directory s (length x.directory) h.table.directory)
    ∙ refuse_pass _ _ 0 _ (to_not-not (is_index s x) (to_is_index s x h))

-- ---- what an accepted edit tells

pub record Addable (s : Scale) (x : Index) (t : Trip) : Type 0 where
  pub is-index : Indexed s x
  pub not_full : length (table_of s x) < most_trips
  pub row_ok : RowOk s (table_of s x) t
  pub room : Room s (t ∷ table_of s x) (lengths_of x)

pub of_add : (s : Scale) (x : Index) (t : Trip) → add_outcome s x t ≡ Accepted → Addable s x t
unfolding add_outcome full
of_add s x t e =
    let a = of_index_tests s x _ e in
    let b = refuse_no _ _ 0 _ a.1 in
    let c = of_row_tests s (table_of s x) t 0 _ b.1 in
    let d = refuse_no _ _ 0 _ c.1 in
    record {
      is-index = a.0;
      not_full = nleb→lt most_trips (length (table_of s x)) b.0;
      row_ok = c.0;
      room = of_no_room s (t ∷ table_of s x)
          (lengths_of x) d.0;
    }

pub to_add : (s : Scale) (x : Index) (t : Trip) → Addable s x t → add_outcome s x t ≡ Accepted
unfolding add_outcome full
to_add s x t h =
    to_index_tests s x _ h.is-index
    ∙ refuse_pass _ _ 0 _ (lt→nleb most_trips (length (table_of s x)) h.not_full)
    ∙ to_row_tests s (table_of s x) t 0 _ h.row_ok
    ∙ refuse_pass _ _ 0 _ (to_no_room s (t ∷ table_of s x) (lengths_of x) h.room)

-- "add: 4,096 trips already" gives 2, whatever the trip
pub full-gives_2 : (s : Scale) (x : Index) (t : Trip) → Indexed s x → T (full (table_of s x)) → add_outcome s x t ≡ Refused TableSize 0
unfolding add_outcome
full-gives_2 s x t h f = to_index_tests s x _ h ∙ refuse_taken _ _ 0 _ f

pub record Removable (s : Scale) (x : Index) (i : ℕ) : Type 0 where
  pub is-index : Indexed s x
  pub there-is : T (has_id i (table_of s x))

pub of_remove : (s : Scale) (x : Index) (i : ℕ) → remove_outcome s x i ≡ Accepted → Removable s x i
unfolding remove_outcome
of_remove s x i e =
    let a = of_index_tests s x _ e in
    let b = refuse_no _ _ 0 _ a.1 in
    record { is-index = a.0; there-is = of_not_not (has_id i (table_of s x)) b.0 }

-- ---- the new table is accepted again

rows_alone : (s : Scale) (t : Trip) (ts : List Trip) → RowOk s ts t → RowsOk s [] ts → RowsOk s [] (t ∷ ts)
rows_alone s t ts r w =
    rows_more s [] t ts (record { fits = r.fits; fresh = λ u m. absurd (not-nil m) }) (record {
      fits = w.fits;
      distinct = w.distinct;
      fresh = λ u v m k e. elim k [ here q ↦ r.fresh u m (sym e ∙ ap (λ (z : Trip). z.id) q) | there n ↦ not-nil n ];
    })

pub added-table : (s : Scale) (x : Index) (t : Trip) → Addable s x t → Table s (t ∷ table_of s x) (lengths_of x)
added-table s x t h = let w = h.is-index.table in record {
  good = w.good;
  few = omega (arith, h.not_full);
  directory = w.directory;
  rows_ok = rows_alone s t (table_of s x) h.row_ok w.rows_ok;
  room = h.room;
}

-- what is kept of a table for the other ids
pub of_without : (i : ℕ) (ts : List Trip) (u : Trip) → Mem u (without i ts) → Mem u ts × (u.id ≡ i → ⊥)
unfolding without
of_without i ts u m =
    let w = of_keep (λ (t : Trip). not (eqb t.id i)) ts u m in
    (w.0, λ e. T_not (eqb u.id i) w.1 (rw e (eqb_refl i)))

pub to_without : (i : ℕ) (ts : List Trip) (u : Trip) → Mem u ts → (u.id ≡ i → ⊥) → Mem u (without i ts)
unfolding without
to_without i ts u m n = to_keep (λ (t : Trip). not (eqb t.id i)) ts u m (not_T (eqb u.id i) (λ q. n (eqb→eq u.id i q)))

pub without_distinct : (i : ℕ) {ts : List Trip} → Distinct ts → Distinct (without i ts)
unfolding without
without_distinct i d = pairs_keep (λ (t : Trip). not (eqb t.id i)) d

pub without_in : (i : ℕ) {ts us : List Trip} → In ts us → In (without i ts) (without i us)
unfolding without
without_in i h = keep_in (λ (t : Trip). not (eqb t.id i)) h

pub without-length : (i : ℕ) (ts : List Trip) → length (without i ts) ≤ length ts
unfolding without
without-length i ts = keep-length (λ (t : Trip). not (eqb t.id i)) ts

pub without_shorter : (ts : List Trip) (u : Trip) → Mem u ts → length (without u.id ts) < length ts
unfolding without
without_shorter ts u m = keep_shorter (λ (t : Trip). not (eqb t.id u.id)) ts u m (to_not-not (eqb u.id u.id) (eqb_refl u.id))

-- a table without one id is a table for the same lengths
pub without-table : (s : Scale) (i : ℕ) (ts : List Trip) (n : Lengths) → Table s ts n → Table s (without i ts) n
without-table s i ts n w = record {
  good = w.good;
  few = omega (arith, without-length i ts, w.few);
  directory = w.directory;
  rows_ok = record {
    fits = λ t m. w.rows_ok.fits t (of_without i ts t m).0;
    distinct = without_distinct i w.rows_ok.distinct;
    fresh = λ t u m k. absurd (not-nil k);
  };
  room = record {
    for_originals = le_trans (words_le (entries-without s Originals i ts w.rows_ok.distinct)) w.room.for_originals;
    for_replicas = le_trans (words_le (entries-without s Replicas i ts w.rows_ok.distinct)) w.room.for_replicas;
  };
}

-- ---- the words after an edit are an index, of the same lengths

pub layout_indexed : (s : Scale) → Fair s → (ts : List Trip) (n : Lengths) → Table s ts n → Indexed s (layout s ts n)
layout_indexed s fair ts n w =
    let e = layout-lengths s ts n w.directory w.room in
    indexed s fair ts (layout s ts n) (rw e w) (ap (layout s ts) (sym e))

-- ---- demand 3: for EVERY table that gives the words at entry, the words at exit are what build writes for that table, edited

-- what build gives for a table that it accepts
pub build-accepted : (s : Scale) (ts : List Trip) (x : Index) → Table s ts (lengths_of x) → build_of s (words ts) x
    ≡ after Accepted (layout s ts (lengths_of x))
unfolding build_of
build-accepted s ts x w = sym (leaves_made x _ (to_build s ts (lengths_of x) w) refl) ∙ rw rows_words

module _ (s : Scale) (fair : Fair s) (x : Index) (ts : List Trip) (given : Table s ts (lengths_of x)) (e : x ≡ layout s ts (lengths_of x)) where
  pub table_in : In (table_of s x) ts
  table_in = rw (table_again s fair ts x given e) (back_in s fair ts (lengths_of x) given)

  pub in_table : In ts (table_of s x)
  in_table = rw (table_again s fair ts x given e) (in_back s fair ts (lengths_of x) given)

  module _ (t : Trip) (h : Addable s x t) where
    added_distinct : Distinct (t ∷ ts)
    added_distinct = more (λ u m q. h.row_ok.fresh u (in_table u m) (sym q)) given.rows_ok.distinct

    cons_in : {us vs : List Trip} → In us vs → In (t ∷ us) (t ∷ vs)
    cons_in f z m = elim m [ here q ↦ here q | there n ↦ there (f z n) ]

    pub added-same : (n : Lengths) → layout s (t ∷ table_of s x) n ≡ layout s (t ∷ ts) n
    added-same = layout-same s (t ∷ table_of s x) (t ∷ ts) (added-table s x t h).rows_ok.distinct added_distinct (cons_in table_in) (cons_in in_table)

    added_more : Table s (t ∷ ts) (lengths_of x)
    added_more =
        let r = h.row_ok in
        let us = t ∷ table_of s x in
        let d = (added-table s x t h).rows_ok.distinct in
        let same : length (table_of s x) ≡ length ts = ap length (table_again s fair ts x given e) ∙ back_length s fair ts (lengths_of x) given in
        record {
          good = given.good;
          few = omega (arith, h.not_full, same);
          directory = given.directory;
          rows_ok = rows_alone s t ts (record { fits = r.fits; fresh = λ u m. r.fresh u (in_table u m) }) given.rows_ok;
          room = record {
            for_originals = rw (entries-same s (t ∷ ts) us added_distinct d (cons_in in_table) (cons_in table_in) Originals) h.room.for_originals;
            for_replicas = rw (entries-same s (t ∷ ts) us added_distinct d (cons_in in_table) (cons_in table_in) Replicas) h.room.for_replicas;
          };
        }

    pub added-is_built : add_of s x t ≡ build_of s (words (t ∷ ts)) x
    unfolding add_of
    added-is_built =
        sym (leaves_made x _ (to_add s x t h) refl) ∙ ap (after Accepted) (added-same (lengths_of x)) ∙ sym (build-accepted s (t ∷ ts) x added_more)

  module _ (i : ℕ) (a : remove_outcome s x i ≡ Accepted) where
    pub removed-same : (n : Lengths) → layout s (without i (table_of s x)) n ≡ layout s (without i ts) n
    removed-same =
        layout-same s (without i (table_of s x)) (without i ts) (without_distinct i (of_remove s x i a).is-index.table.rows_ok.distinct)
        (without_distinct i given.rows_ok.distinct) (without_in i table_in) (without_in i in_table)

    pub removed-is_built : remove_of s x i ≡ build_of s (words (without i ts)) x
    unfolding remove_of
    removed-is_built =
        sym (leaves_made x _ a refl) ∙ ap (after Accepted) (removed-same (lengths_of x))
        ∙ sym (build-accepted s (without i ts) x (without-table s i ts (lengths_of x) given))
