-- The local tests pass exactly where the definition's test of an index does.
use mathlib.Core.Path.{◌≡◌, sym, ap, ◌∙◌}
use mathlib.Core.Bool.{◌&&◌}
use mathlib.Core.List.{List, Memᴰ as Mem}
use Prim.Native.Nat.{ℕ, ◌+◌, ◌-◌, ◌*◌, ◌<◌}
use native.Mathlib.Omega.{arith}
use lib.Dec.{T, leb, eqb, leb→le, le→leb, eqb→eq, eqb_refl}
use lib.ListN.{length, take, drop, length-drop}
use lib.Seq.{length-take-le}
use Rattle.lists.specs.Lists.{joined, sum_over}
use Rattle.lists.proofs.Tests.{of_and, to_and, to_T}
use Rattle.lists.proofs.Members.{In, of_joined, to_joined}
use Rattle.lists.proofs.Joined.{joined_ext}
use Rattle.ruler.specs.declared.Ruler.{Ruler}
use Rattle.ruler.specs.Ruler.{Scale, most_trips}
use Rattle.ruler.specs.Made.{scale}
use Rattle.ruler.proofs.Fair.{Fair}
use Rattle.trip.specs.declared.Trip.{Trip}
use Rattle.trip.specs.Trips.{same_trip}
use Rattle.trip.proofs.SameWords.{of_same, same_refl}
use Rattle.layout.specs.declared.Half.{Half}
use Rattle.layout.specs.declared.Half.TheVariants.{Originals, Replicas}
use Rattle.layout.specs.Words.{order, partitions, half_length, directory_length, partitions_holding, subdivision_at, Index}
use Rattle.layout.specs.Refusals.{is_index, fits}
use Rattle.layout.specs.Calls.{index}
use Rattle.layout.proofs.RulerCells.{good-ruler, fair_ruler}
use Rattle.layout.proofs.RowOrder.{slot-order}
use Rattle.layout.proofs.Indexes.{of_is_index, to_is_index}
use Rattle.layout.proofs.SlotMembers.{in_slot}
use Rattle.layout.proofs.LocalConditions.{slots_of, Standing, Proper, Laid, originals_half, replicas_half, all_fit, originals_are, local_index, index_local}
use Rattle.layout.proofs.Chains.{of_fits, to_fits}
use Rattle.store.specs.Ids.{ids_differ}
use Rattle.store.proofs.Differing.{of_ids_differ, to_ids_differ}
use Rattle.store.specs.Homes.{home}
use Rattle.store.specs.Halves.{total}
use Rattle.store.proofs.Halves.{total_at}
use Rattle.verify.specs.Passing.{each, some}
use Rattle.verify.specs.Local.{half_ok, slot_at, trips_of, stands_at, slot_ok, slots_ok, is_known, counts_to, halves_ok, all_slots_ok, trips_ok, locally}
use Rattle.verify.proofs.Passing.{bool_ext, of_below, to_below, of_each, to_each, of_some, to_some, row_passes, row_sorted, to_row}
use Rattle.store.proofs.Homes.{home_lt, home-slot}
use Rattle.verify.proofs.SlotsCut.{of_half, to_half, count_cut, cut_laid, trips_cut, laid_length, laid_cut, laid_at}

-- ---- one half

-- words that hold the lists f
module _ (s : Scale) (h : Half) (dir arena : List ℕ) (f : ℕ → List Trip) (w : Laid dir arena f (slots_of s)) where
  half_passes : T (half_ok dir arena)
  half_passes = to_half dir arena (slots_of s) (laid_length dir arena f _ w) (laid_cut dir arena f _ w)

  all_are : joined (slot_at dir arena) (slots_of s) ≡ joined f (slots_of s)
  all_are = joined_ext (slot_at dir arena) f (slots_of s) (laid_at dir arena f (slots_of s) w)

  trips_are : trips_of dir arena ≡ joined f (slots_of s)
  trips_are = trips_cut dir arena (slots_of s) (laid_cut dir arena f _ w) (laid_length dir arena f _ w) ∙ all_are

  total-is : total dir ≡ length (joined f (slots_of s))
  total-is =
      let n = slots_of s in
      total_at dir n (laid_length dir arena f n w) ∙ sym (count_cut dir arena n (laid_cut dir arena f n w) n (omega arith)) ∙ ap length all_are

  to_slots_ok : Standing s h f → T (slots_ok s h dir arena)
  unfolding slots_ok slot_ok stands_at
  to_slots_ok c =
      let n : length dir - 1 ≡ slots_of s = omega (arith, laid_length dir arena f _ w) in
      let stands : (k : ℕ) → k < slots_of s → (u : Trip) → Mem u (f k) → T (fits s u && in_slot s h k u) = λ k l u m.
      to_and (fits s u) (in_slot s h k u) (to_fits s u (c.fits k l u m)) (c.right k l u m)
      in
      rw n (to_below (λ k. slot_ok s h k (slot_at dir arena k)) (slots_of s) (λ k l.
      rw (laid_at dir arena f (slots_of s) w k l) (to_row _ (order (subdivision_at h k)) (stands k l) (c.sorted k l))))

-- slots that pass
of_slots_ok : (s : Scale) (h : Half) (dir arena : List ℕ) → length dir ≡ slots_of s + 1 → T (slots_ok s h dir arena) → Standing s h (slot_at dir arena)
unfolding slots_ok slot_ok stands_at
of_slots_ok s h dir arena e t =
    let f = slot_at dir arena in
    let n : length dir - 1 ≡ slots_of s = omega arith in
    let row : (k : ℕ) → k < slots_of s → T (slot_ok s h k (f k)) = λ k l. of_below (λ k. slot_ok s h k (f k)) (slots_of s) (rw n at t) k l in
    let both : (k : ℕ) → k < slots_of s → (u : Trip) → Mem u (f k) → T (fits s u) × T (in_slot s h k u) = λ k l u m.
    of_and (fits s u) (in_slot s h k u) (row_passes _ (slot-order (subdivision_at h k)) (f k) (row k l) u m)
    in
    record {
      fits = λ k l u m. of_fits s u (both k l u m).0;
      right = λ k l u m. (both k l u m).1;
      sorted = λ k l. row_sorted _ (slot-order (subdivision_at h k)) (f k) (row k l);
    }

-- ---- both halves

module _ (s : Scale) (fair : Fair s) (o orig r repl : List ℕ) where
  -- words that hold lists that pass
  to_locally : (f g : ℕ → List Trip) → Laid o orig f (slots_of s) → Laid r repl g (slots_of s) → Proper s f g → T (locally s o orig r repl)
  unfolding locally halves_ok all_slots_ok trips_ok is_known counts_to
  to_locally f g a b c =
      let n = slots_of s in
      let ts = joined f n in
      let to = trips_are s Originals o orig f a in
      let tr = trips_are s Replicas r repl g b in
      let co = total-is s Originals o orig f a in
      let cr = total-is s Replicas r repl g b in
      let known : (t : Trip) → Mem t (joined g n) → T (is_known s o orig t) = λ t m.
      let v = of_joined g n t m in
      let fit = c.replicas.fits v.0 v.1 t v.2 in
      let lt = home_lt s fair t fit in
      let there : Mem t (slot_at o orig (home s t)) =
      rw (laid_at o orig f n a (home s t) lt, originals_are s fair f g c (home s t) lt) (home-slot s fair t fit ts (c.known v.0 v.1 t v.2))
      in
      to_and (fits s t) _ (to_fits s t fit) (to_some (same_trip t) (slot_at o orig (home s t)) t there (same_refl t))
      in
      let all-fits : T (each (fits s) ts) = to_each (fits s) ts (λ t m. to_fits s t (all_fit s fair f g c t m)) in
      let sum = sum_over (partitions_holding s) ts in
      let counted : T (eqb (length ts + length (joined g n)) sum) = rw c.total (eqb_refl sum) in
      to_and (half_ok o orig && half_ok r repl) _ (to_and (half_ok o orig) _ (half_passes s Originals o orig f a) (half_passes s Replicas r repl g b))
      (to_and (leb (total o) most_trips && (slots_ok s Originals o orig && slots_ok s Replicas r repl)) _
      (to_and (leb (total o) most_trips) _ (le→leb (total o) most_trips (rw co c.few))
      (to_and (slots_ok s Originals o orig) _ (to_slots_ok s Originals o orig f a c.originals) (to_slots_ok s Replicas r repl g b c.replicas)))
      (to_and (ids_differ (trips_of o orig)) _ (rw to (to_ids_differ ts c.distinct))
      (to_and (each (is_known s o orig) (trips_of r repl)) _ (rw tr (to_each (is_known s o orig) (joined g n) known))
      (rw (to, co, cr) (to_and (each (fits s) ts) _ all-fits counted)))))

  -- words that pass hold the lists that they are cut into, and these pass
  module _ (o-long : length o ≡ slots_of s + 1) (r-long : length r ≡ slots_of s + 1) where
    laid_parts : T (halves_ok o orig r repl) → Laid o orig (slot_at o orig) (slots_of s) × Laid r repl (slot_at r repl) (slots_of s)
    unfolding halves_ok
    laid_parts t =
        let w = of_and (half_ok o orig) (half_ok r repl) t in
        let n = slots_of s in
        (cut_laid o orig n (of_half o orig n o-long w.0) o-long, cut_laid r repl n (of_half r repl n r-long w.1) r-long)

    of_locally : T (locally s o orig r repl)
        → Laid o orig (slot_at o orig) (slots_of s) × Laid r repl (slot_at r repl) (slots_of s) × Proper s (slot_at o orig) (slot_at r repl)
    unfolding locally all_slots_ok trips_ok is_known counts_to
    of_locally t =
        let n = slots_of s in
        let t1 = of_and (halves_ok o orig r repl) _ t in
        let t2 = of_and (leb (total o) most_trips && (slots_ok s Originals o orig && slots_ok s Replicas r repl)) _ t1.1 in
        let t3 = of_and (leb (total o) most_trips) _ t2.0 in
        let t4 = of_and (slots_ok s Originals o orig) _ t3.1 in
        let t5 = of_and (ids_differ (trips_of o orig)) _ t2.1 in
        let t6 = of_and (each (is_known s o orig) (trips_of r repl)) _ t5.1 in
        let t7 = of_and (each (fits s) (trips_of o orig)) (eqb (total o + total r) (sum_over (partitions_holding s) (trips_of o orig))) t6.1 in
        let parts = laid_parts t1.0 in
        let to = trips_are s Originals o orig (slot_at o orig) parts.0 in
        let tr = trips_are s Replicas r repl (slot_at r repl) parts.1 in
        let co = total-is s Originals o orig (slot_at o orig) parts.0 in
        let cr = total-is s Replicas r repl (slot_at r repl) parts.1 in
        let known : (k : ℕ) → k < n → In (slot_at r repl k) (joined (slot_at o orig) n) = λ k h u m.
        let a = of_each (is_known s o orig) (trips_of r repl) t6.0 u (rw tr (to_joined (slot_at r repl) n k u h m)) in
        let b = of_and (fits s u) (some (same_trip u) (slot_at o orig (home s u))) a in
        let v = of_some (same_trip u) (slot_at o orig (home s u)) b.1 in
        rw (of_same u v.0 v.2) (to_joined (slot_at o orig) n (home s u) v.0 (home_lt s fair u (of_fits s u b.0)) v.1)
        in (
          parts.0,
          parts.1,
          record {
            originals = of_slots_ok s Originals o orig o-long t4.0;
            replicas = of_slots_ok s Replicas r repl r-long t4.1;
            few = rw co at (leb→le (total o) most_trips t3.0);
            distinct = rw to at (of_ids_differ (trips_of o orig) t5.0);
            known = known;
            total = rw (co, cr, to) at (eqb→eq (total o + total r) (sum_over (partitions_holding s) (trips_of o orig)) t7.1);
          },
        )

-- ---- the law

module _ (s : Scale) (fair : Fair s) (x : Index) (good : T s.good) (long : length x.directory ≡ directory_length s.m) where
  o_length : length (originals_half s x.directory) ≡ slots_of s + 1
  unfolding originals_half half_length directory_length
  o_length = length-take-le (2 * partitions s.m + 1) x.directory (omega arith)

  r_length : length (replicas_half s x.directory) ≡ slots_of s + 1
  unfolding replicas_half half_length directory_length
  r_length = length-drop (2 * partitions s.m + 1) x.directory ∙ omega arith

  pub locally-index : is_index s x ≡ locally s (originals_half s x.directory) x.originals (replicas_half s x.directory) x.replicas
  locally-index =
      let o = originals_half s x.directory in
      let r = replicas_half s x.directory in
      bool_ext (is_index s x) (locally s o x.originals r x.replicas)
      (λ t.
      let w = index_local s fair x (of_is_index s x t) in
      to_locally s fair o x.originals r x.replicas _ _ w.in_originals w.in_replicas w.proper)
      (λ t.
      let w = of_locally s fair o x.originals r x.replicas o_length r_length t in
      to_is_index s x (local_index s fair x _ _ good long (record { in_originals = w.0; in_replicas = w.1; proper = w.2 })))

-- the same of a ruler, for the two halves as the code splits the directory
module _ (r : Ruler) (d : List ℕ) (long : length d ≡ directory_length (scale r).m) {h : ℕ}
    (half : h ≡ half_length (scale r).m) where
  pub halves-index : (orig repl : List ℕ) → is_index (scale r) (index d orig repl) ≡ locally (scale r) (take h d) orig (drop h d) repl
  unfolding originals_half replicas_half
  halves-index orig repl = rw half (locally-index (scale r) (fair_ruler r) (index d orig repl) (to_T (good-ruler r)) long)
