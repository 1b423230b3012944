-- "Room freed by a removal serves the next addition": any trip that passes its own tests and has no more entries in either half than the trip taken
-- out had is added at once, however little room the arenas have.
use mathlib.Core.Path.{◌≡◌, sym, ap, ◌∙◌}
use mathlib.Core.List.Memᴰ.{head as here}
use mathlib.Core.List.Memᴰ.{tail as there}
use mathlib.Core.List.{List, [], ◌∷◌, Memᴰ as Mem}
use Prim.Native.Nat.{ℕ, ◌+◌, ◌≤◌}
use native.Mathlib.Omega.{arith}
use native.Mathlib.Decide.{ℕ_discrete}
use native.Mathlib.Nat.{le_trans, mul-le-mul_left}
use lib.ListN.{length}
use Rattle.lists.proofs.Members.{In, more}
use Rattle.ruler.specs.Ruler.{Scale}
use Rattle.ruler.proofs.Fair.{Fair}
use Rattle.trip.specs.declared.Trip.{Trip}
use Rattle.layout.specs.declared.Half.{Half}
use Rattle.layout.specs.declared.Half.TheVariants.{Originals, Replicas}
use Rattle.layout.specs.Outcomes.{Accepted}
use Rattle.layout.specs.Words.{entry_words, words, rows, entries, Index}
use Rattle.layout.specs.Refusals.{IndexOf, table_of, row_tests, add_outcome, Fits}
use Rattle.layout.specs.Calls.{without, remove_of}
use Rattle.layout.proofs.RowOrder.{Distinct, entries-same}
use Rattle.layout.proofs.SlotMembers.{same_id}
use Rattle.layout.proofs.Rows.{rows_words}
use Rattle.layout.proofs.Tables.{of_row_tests}
use Rattle.layout.proofs.Indexes.{given_table, given_indexed}
use Rattle.store.proofs.TripWalkRoom.{entries-added}
use Rattle.layout.proofs.EditsBuild.{to_add, of_without, to_without, without_distinct, without_shorter, table_in}
use Rattle.layout.proofs.Given.{given_length, given_entries}
use Rattle.layout.proofs.Left.{removed-left, remove-accepted}

-- a trip more adds its own entries, as many as a table of it alone has
own_entries : (s : Scale) → Fair s → (t : Trip) → Fits s t → (h : Half) (ts : List Trip)
    → length (entries s h (t ∷ ts)) + length (entries s h []) ≡ length (entries s h ts) + length (entries s h (t ∷ []))
own_entries s fair t f h ts =
    let inside = fair.one_of t.end f.times.ends in
    omega (arith, entries-added s t inside h ts, entries-added s t inside h [])

-- a table is one of its trips and the rest
module _ (ts : List Trip) (d : Distinct ts) (u : Trip) (m : Mem u ts) where
  rest_distinct : Distinct (u ∷ without u.id ts)
  rest_distinct = more (λ v k e. (of_without u.id ts v k).1 (sym e)) (without_distinct u.id d)

  of_rest : In (u ∷ without u.id ts) ts
  of_rest z k = elim k [ here q ↦ rw q m | there j ↦ (of_without u.id ts z j).0 ]

  to_rest : In ts (u ∷ without u.id ts)
  to_rest z k = elim (ℕ_discrete z.id u.id) [ yes q ↦ here (same_id d z u k m q) | no q ↦ there (to_without u.id ts z k q) ]

module _ (s : Scale) (fair : Fair s) (table : List ℕ) (x : Index) (g : IndexOf s table x) (u : Trip) (m : Mem u (rows table)) where
  pub add-next : (t : Trip) → row_tests s (without u.id (rows table)) t 0 Accepted ≡ Accepted
      → ((h : Half) → length (entries s h (t ∷ [])) ≤ length (entries s h (u ∷ [])))
      → add_outcome s (remove_of s x u.id).words t ≡ Accepted
  add-next t ok small =
      let ts = rows table in
      let rest = without u.id ts in
      let w = given_table s table x g in
      let d = w.rows_ok.distinct in
      let y = (remove_of s x u.id).words in
      let l = removed-left s fair table x g u.id (remove-accepted s fair table x g u m) in
      let gy = l.is-index in
      let row = (of_row_tests s rest t 0 Accepted ok).0 in
      let wy = given_table s (words rest) y gy in
      let again : In (table_of s y) rest = rw rows_words at (table_in s fair y (rows (words rest)) wy gy.words_are) in
      let many : length (table_of s y) ≡ length rest = given_length s fair (words rest) y gy ∙ rw rows_words in
      let kept : (h : Half) → length (entries s h (t ∷ table_of s y)) ≤ length (entries s h ts) = λ h.
      let whole = ap length (entries-same s (u ∷ rest) ts (rest_distinct ts d u m) d (of_rest ts d u m) (to_rest ts d u m) h) in
      let left : length (entries s h (table_of s y)) ≡ length (entries s h rest) =
      ap length (given_entries s fair (words rest) y gy h) ∙ rw rows_words in
      omega (
        arith,
        own_entries s fair t row.fits h (table_of s y),
        own_entries s fair u (w.rows_ok.fits u m) h rest,
        small h,
        whole,
        left,
      )
      in
      to_add s y t (record {
        is-index = given_indexed s fair (words rest) y gy;
        not_full = omega (arith, without_shorter ts u m, w.few, many);
        row_ok = record { fits = row.fits; fresh = λ v k. row.fresh v (again v k) };
        room = rw l.lengths (record {
          for_originals = le_trans (mul-le-mul_left entry_words (kept Originals)) w.room.for_originals;
          for_replicas = le_trans (mul-le-mul_left entry_words (kept Replicas)) w.room.for_replicas;
        });
      })
