-- What build accepts, as facts, both ways.
use mathlib.Core.Path.{◌≡◌, refl, sym, ap, subst, ◌∙◌}
use mathlib.Core.List.Memᴰ.{head as here}
use mathlib.Core.List.Memᴰ.{not-nil}
use mathlib.Core.List.Memᴰ.{tail as there}
use mathlib.Core.List.{List, [], ◌∷◌, Memᴰ as Mem}
use Prim.Native.Nat.{ℕ, suc, ◌%◌, ◌≤◌}
use lib.Dec.{T}
use lib.ListN.{length}
use Rattle.lists.proofs.Members.{none, more}
use Rattle.ruler.specs.Ruler.{Scale, most_trips}
use Rattle.trip.specs.declared.Trip.{Trip}
use Rattle.layout.specs.Outcomes.{Outcome, Accepted}
use Rattle.layout.specs.Words.{entry_words, words, rows, directory_length, Lengths}
use Rattle.layout.specs.Refusals.{row_tests_by, row_tests, first_bad_row, build_outcome, Fits}
use Rattle.layout.proofs.RowOrder.{OtherId, Distinct}
use Rattle.layout.proofs.Rows.{rows_words, words-length, whole, whole-rest, length-rows}
use Rattle.layout.proofs.Chains.{Sized, Room, refuse_no, refuse_pass, of_out_of_bounds, to_out_of_bounds, of_bad_size, to_bad_size, of_bad_directory, to_bad_directory, times_pass, times_on, of_has_id, to_has_id, of_no_room, to_no_room}

-- ---- one row

-- a trip that passes tests 4, 5, 6 and 16 beside those that are there
pub record RowOk (s : Scale) (beside : List Trip) (t : Trip) : Type 0 where
  pub fits : Fits s t
  pub fresh : (u : Trip) → Mem u beside → u.id ≡ t.id → ⊥

pub of_row_tests : (s : Scale) (beside : List Trip) (t : Trip) (k : ℕ) (rest : Outcome) → row_tests s beside t k rest ≡ Accepted → RowOk s beside t
    × (rest ≡ Accepted)
unfolding row_tests row_tests_by
of_row_tests s beside t k rest e =
    let on = times_on s t.start t.end k _ e in
    let c = refuse_no _ _ k _ (sym (times_pass s t.start t.end k _ on) ∙ e) in
    let d = refuse_no _ _ k _ c.1 in
    (record { fits = record { times = on; runs = d.0 }; fresh = of_has_id t.id beside c.0 }, d.1)

pub to_row_tests : (s : Scale) (beside : List Trip) (t : Trip) (k : ℕ) (rest : Outcome) → RowOk s beside t → row_tests s beside t k rest ≡ rest
unfolding row_tests row_tests_by
to_row_tests s beside t k rest w =
    times_pass s t.start t.end k _ w.fits.times
    ∙ refuse_pass _ _ k _ (to_has_id t.id beside w.fresh)
    ∙ refuse_pass _ _ k _ w.fits.runs

-- ---- all rows

-- what the rows' tests say of rows that stand after others
pub record RowsOk (s : Scale) (earlier ts : List Trip) : Type 0 where
  pub fits : (t : Trip) → Mem t ts → Fits s t
  pub distinct : Distinct ts
  pub fresh : (t u : Trip) → Mem t ts → Mem u earlier → u.id ≡ t.id → ⊥

pub rows_more : (s : Scale) (earlier : List Trip) (t : Trip) (ts : List Trip) → RowOk s earlier t → RowsOk s (t ∷ earlier) ts
    → RowsOk s earlier (t ∷ ts)
rows_more s earlier t ts r w = record {
  fits = λ u m. elim m [ here e ↦ subst (Fits s) (sym e) r.fits | there q ↦ w.fits u q ];
  distinct = more (λ u m. w.fresh u t m (here refl)) w.distinct;
  fresh = λ u v m k. elim m [ here e ↦ λ q. r.fresh v k (q ∙ ap (λ (x : Trip). x.id) e) | there q ↦ w.fresh u v q (there k) ];
}

pub distinct_head : {t : Trip} {ts : List Trip} → Distinct (t ∷ ts) → (u : Trip) → Mem u ts → OtherId t u
distinct_head (more h d) = h

pub distinct_tail : {t : Trip} {ts : List Trip} → Distinct (t ∷ ts) → Distinct ts
distinct_tail (more h d) = d

rows_head : (s : Scale) (earlier : List Trip) (t : Trip) (ts : List Trip) → RowsOk s earlier (t ∷ ts) → RowOk s earlier t
rows_head s earlier t ts w = record { fits = w.fits t (here refl); fresh = λ u m. w.fresh t u (here refl) m }

rows_tail : (s : Scale) (earlier : List Trip) (t : Trip) (ts : List Trip) → RowsOk s earlier (t ∷ ts) → RowsOk s (t ∷ earlier) ts
rows_tail s earlier t ts w = record {
  fits = λ u m. w.fits u (there m);
  distinct = distinct_tail w.distinct;
  fresh = λ u v m k. elim k [
    | here e ↦ λ q. distinct_head w.distinct u m (ap (λ (x : Trip). x.id) (sym e) ∙ q)
    | there n ↦ w.fresh u v (there m) n
  ];
}

pub of_first_bad_row : (s : Scale) (k : ℕ) (earlier ts : List Trip) (rest : Outcome)
    → first_bad_row s k earlier ts rest ≡ Accepted → RowsOk s earlier ts × (rest ≡ Accepted)
unfolding first_bad_row
of_first_bad_row s k earlier [] rest e =
    (record { fits = λ t m. absurd (not-nil m); distinct = none; fresh = λ t u m n. absurd (not-nil m) }, e)
of_first_bad_row s k earlier (t ∷ ts) rest e =
    let a = of_row_tests s earlier t k _ e in
    let ih = of_first_bad_row s (suc k) (t ∷ earlier) ts rest a.1 in
    (rows_more s earlier t ts a.0 ih.0, ih.1)

pub to_first_bad_row : (s : Scale) (k : ℕ) (earlier ts : List Trip) (rest : Outcome) → RowsOk s earlier ts → first_bad_row s k earlier ts rest ≡ rest
unfolding first_bad_row
to_first_bad_row s k earlier [] rest w = refl
to_first_bad_row s k earlier (t ∷ ts) rest w =
    to_row_tests s earlier t k _ (rows_head s earlier t ts w) ∙ to_first_bad_row s (suc k) (t ∷ earlier) ts rest (rows_tail s earlier t ts w)

-- ---- the whole

-- trips that build accepts, for buffers of these lengths
pub record Table (s : Scale) (ts : List Trip) (n : Lengths) : Type 0 where
  pub good : T s.good
  pub few : length ts ≤ most_trips
  pub directory : n.directory ≡ directory_length s.m
  pub rows_ok : RowsOk s [] ts
  pub room : Room s ts n

pub of_build : (s : Scale) (table : List ℕ) (n : Lengths) → build_outcome s table n ≡ Accepted → Table s (rows table) n
    × (length table % entry_words ≡ 0)
unfolding build_outcome
of_build s table n e =
    let a = refuse_no _ _ 0 _ e in
    let b = refuse_no _ _ 0 _ a.1 in
    let c = refuse_no _ _ 0 _ b.1 in
    let d = of_first_bad_row s 0 [] (rows table) _ c.1 in
    let g = refuse_no _ _ 0 _ d.1 in
    let z = of_bad_size table b.0 in (
      record {
        good = of_out_of_bounds s a.0;
        few = rw (length-rows table) z.few-rows;
        directory = of_bad_directory s n.directory c.0;
        rows_ok = d.0;
        room = of_no_room s (rows table) n g.0;
      },
      z.whole-rows,
    )

sized_words : (ts : List Trip) → length ts ≤ most_trips → Sized (words ts)
sized_words ts h = record { whole-rows = rw words-length (whole-rest (length ts)); few-rows = rw (words-length, whole) h }

pub to_build : (s : Scale) (ts : List Trip) (n : Lengths) → Table s ts n → build_outcome s (words ts) n ≡ Accepted
unfolding build_outcome
to_build s ts n w =
    refuse_pass _ _ 0 _ (to_out_of_bounds s w.good)
    ∙ refuse_pass _ _ 0 _ (to_bad_size (words ts) (sized_words ts w.few))
    ∙ refuse_pass _ _ 0 _ (to_bad_directory s n.directory w.directory)
    ∙ to_first_bad_row s 0 [] (rows (words ts)) _ (rw rows_words w.rows_ok)
    ∙ refuse_pass _ _ 0 _ (rw rows_words (to_no_room s ts n w.room))
