-- "So row order in the table has no influence on the index", said of a build: where it accepts one table, it accepts every other that has the same
-- rows, and leaves the same words.
use mathlib.Core.Path.{◌≡◌, refl, sym, ap, ◌∙◌}
use mathlib.Core.Bool.{Bool, true, false, not}
use mathlib.Core.List.Memᴰ.{head as here}
use mathlib.Core.List.Memᴰ.{not-nil}
use mathlib.Core.List.Memᴰ.{tail as there}
use mathlib.Core.List.{List, [], ◌∷◌, Memᴰ as Mem}
use Prim.Native.Nat.{ℕ, suc, ◌/◌, ◌%◌, ◌≤◌}
use native.Mathlib.Omega.{arith}
use lib.Dec.{T, eqb, eqb→eq, not_T}
use lib.ListN.{length}
use Rattle.lists.specs.Lists.{cons_if, keep}
use Rattle.lists.proofs.Kept.{keep_all}
use Rattle.lists.proofs.Members.{In, none, more}
use Rattle.ruler.specs.Ruler.{Scale}
use Rattle.trip.specs.declared.Trip.{Trip}
use Rattle.layout.specs.declared.Half.TheVariants.{Originals, Replicas}
use Rattle.layout.specs.Outcomes.{Accepted}
use Rattle.layout.specs.Words.{entry_words, rows, Reordered, Index, lengths_of}
use Rattle.layout.specs.Calls.{after, leaving, build_of, without}
use Rattle.layout.proofs.RowOrder.{OtherId, Distinct, entries-same, layout-same}
use Rattle.layout.proofs.SlotMembers.{same_id}
use Rattle.layout.proofs.Rows.{words-rows, length-rows}
use Rattle.layout.proofs.Tables.{Table, of_build}
use Rattle.layout.proofs.EditsBuild.{of_without, to_without, without_distinct, build-accepted}

-- ---- a list of as many rows as a table has, with the same members, has no id twice either

-- one id takes out one row at most
one_less : (i : ℕ) {ts : List Trip} → Distinct ts → length ts ≤ suc (length (without i ts))
unfolding without keep
one_less i none = omega arith
one_less i (more {x = t} {l = ts} h d) = go (eqb t.id i) (eqb→eq t.id i) (one_less i d)
  where
    go : (b : Bool) → (T b → t.id ≡ i) → length ts ≤ suc (length (without i ts)) → suc (length ts) ≤ suc (length (cons_if (not b) t (without i ts)))
    go true e ih =
        let others : without i ts ≡ ts = keep_all (λ (u : Trip). not (eqb u.id i)) ts
        (λ u m. not_T (eqb u.id i) (λ q. h u m (e tt ∙ sym (eqb→eq u.id i q)))) in
        omega (arith, ap length others)
    go false e ih = omega arith

-- the members of u ∷ us that are not u
past_head : {u : Trip} {us ts : List Trip} → In ts (u ∷ us) → In (without u.id ts) us
past_head {u} {us} {ts} f z m =
    let w = of_without u.id ts z m in
    elim (f z w.0) [ here q ↦ absurd (w.1 (ap (λ (t : Trip). t.id) q)) | there k ↦ k ]

fits_in : (us ts : List Trip) → Distinct ts → In ts us → length ts ≤ length us
fits_in [] [] d f = omega arith
fits_in [] (t ∷ ts) d f = absurd (not-nil (f t (here refl)))
fits_in (u ∷ us) ts d f = omega (arith, one_less u.id d, fits_in us (without u.id ts) (without_distinct u.id d) (past_head f))

distinct_too : (us ts : List Trip) → Distinct ts → In ts us → In us ts → length us ≤ length ts → Distinct us
distinct_too [] ts d f g l = none
distinct_too (u ∷ us) ts d f g l =
    let other : (v : Trip) → Mem v us → OtherId u v = λ v m e.
    let inside : In ts us = λ z k. elim (f z k) [
      | here q ↦ rw (q ∙ same_id d u v (g u (here refl)) (g v (there m)) e) m
      | there j ↦ j
    ] in
    let short : length ts ≤ length us = fits_in us ts d inside in
    omega arith in
    more other (distinct_too us (without u.id ts) (without_distinct u.id d) (past_head f)
    (λ z m. to_without u.id ts z (g z (there m)) (λ e. other z m (sym e))) (omega (arith, one_less u.id d)))

-- ---- so it is a table too, and build leaves the same words

module _ (s : Scale) (a b : List ℕ) (r : Reordered a b) (x : Index) (e : (build_of s a x).outcome ≡ Accepted) where
  of_a : Table s (rows a) (lengths_of x) × (length a % entry_words ≡ 0)
  unfolding build_of leaving
  of_a = of_build s a (lengths_of x) e

  to_b : In (rows a) (rows b)
  to_b z m = (r.same_rows z).0 m

  to_a : In (rows b) (rows a)
  to_a z m = (r.same_rows z).1 m

  as_many : length (rows b) ≡ length (rows a)
  as_many = length-rows b ∙ ap (λ (k : ℕ). k / entry_words) (sym r.as_long) ∙ sym (length-rows a)

  b_distinct : Distinct (rows b)
  b_distinct = distinct_too (rows b) (rows a) of_a.0.rows_ok.distinct to_b to_a (omega (arith, as_many))

  table_b : Table s (rows b) (lengths_of x)
  table_b =
      let w = of_a.0 in
      let d = w.rows_ok.distinct in
      record {
        good = w.good;
        few = rw as_many w.few;
        directory = w.directory;
        rows_ok = record {
          fits = λ t m. w.rows_ok.fits t (to_a t m);
          distinct = b_distinct;
          fresh = λ t u m k. absurd (not-nil k);
        };
        room = record {
          for_originals = rw (entries-same s (rows b) (rows a) b_distinct d to_a to_b Originals) w.room.for_originals;
          for_replicas = rw (entries-same s (rows b) (rows a) b_distinct d to_a to_b Replicas) w.room.for_replicas;
        };
      }

  pub reordered_built : build_of s b x ≡ build_of s a x
  reordered_built =
      let w = of_a.0 in
      let back_a = words-rows a of_a.1 in
      let back-b = words-rows b (ap (λ (k : ℕ). k % entry_words) (sym r.as_long) ∙ of_a.1) in
      ap (λ (l : List ℕ). build_of s l x) (sym back-b)
      ∙ build-accepted s (rows b) x table_b
      ∙ ap (after Accepted) (layout-same s (rows b) (rows a) b_distinct w.rows_ok.distinct to_a to_b (lengths_of x))
      ∙ sym (build-accepted s (rows a) x w)
      ∙ ap (λ (l : List ℕ). build_of s l x) back_a
