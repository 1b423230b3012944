-- The slots of originals that pass are in order, so a trip stands where its key does, or nowhere there.
use mathlib.Core.Path.{◌≡◌, refl, sym, ap, subst, ◌∙◌}
use mathlib.Core.Bool.{Bool, true, false, cond}
use mathlib.Core.List.{List, [], Memᴰ as Mem}
use Prim.Native.Nat.{ℕ, ◌+◌, ◌-◌, ◌/◌, ◌%◌, ◌≤◌, ◌<◌}
use native.Mathlib.Omega.{arith}
use lib.Dec.{T, eqb, leb}
use lib.ListN.{length, get_or}
use Rattle.lists.specs.Sifting.{InOrder}
use Rattle.lists.proofs.Tests.{to_T}
use Rattle.lists.proofs.Sorting.{Sorted}
use Rattle.lists.proofs.Upto.{length-up_to, get_or_up_to}
use Rattle.lists.proofs.Halving.{at_mem, mem_at, in_order}
use Rattle.ruler.specs.Ruler.{Scale}
use Rattle.trip.specs.declared.Trip.{Trip}
use Rattle.trip.specs.Trips.{same_trip}
use Rattle.trip.proofs.SameWords.{of_same, same_refl}
use Rattle.layout.specs.declared.Half.TheVariants.{Originals}
use Rattle.layout.specs.declared.Subdivision.TheVariants.{OIn}
use Rattle.layout.specs.Stored.{subdivision_of}
use Rattle.layout.specs.Words.{entry_words, trip_at, rows, order}
use Rattle.layout.proofs.Rows.{length-rows, get_or_rows}
use Rattle.layout.proofs.RowOrder.{slot-order}
use Rattle.store.specs.Ordered.{no_trip, key_place, key_by}
use Rattle.store.specs.Entries.{word_end}
use Rattle.store.proofs.Classes.{Narrowed, narrow_step}
use Rattle.store.proofs.SlotKeys.{keys_at, keys_climb}
use Rattle.verify.specs.Passing.{some}
use Rattle.verify.specs.Local.{slot_ok, slots_ok, slot_at}
use Rattle.verify.proofs.Passing.{bool_ext, of_below, of_some, to_some, row_sorted}
use Rattle.verify.proofs.LoopTurns.{row_none}

-- ---- a trip in a part that is in order, looked for by its key

either : (b : Bool) (low half : ℕ) → low + cond b half 0 ≡ cond b (low + half) low
either true low half = refl
either false low half = omega arith

-- the middle of the places left is a place of the part
pub middle_in : (part : List ℕ) (key low width : ℕ) → Narrowed key (keys_at (key_place OIn) part) low width
    → low + width / 2 < length part / entry_words
middle_in part key low width w = let inside = w.inside in omega (arith, w.some, rw length-up_to at inside)

module _ (part : List ℕ) (t : Trip) (key : ℕ) (e : key ≡ key_by (key_place OIn) t) where
  -- a part with no entries has it not
  pub found_nowhere : length part / entry_words ≡ 0 → false ≡ some (same_trip t) (rows part)
  unfolding some
  found_nowhere h = let e : rows part ≡ [] = row_none part 0 (omega arith) in rw e

  -- half of the places are left: those from the middle on, where the key there is not above it, else those before
  pub found_step : ((k : ℕ) → get_or part k 0 < word_end) → InOrder (order OIn) no_trip (rows part) (length (rows part))
      → (low width there r : ℕ) → Narrowed key (keys_at (key_place OIn) part) low width → 1 < width
      → there ≡ key_by (key_place OIn) (trip_at part (low + width / 2)) → r ≡ cond (leb there key) (low + width / 2) low
      → Narrowed key (keys_at (key_place OIn) part) r (width - width / 2)
  found_step small in_rows low width there r w h f g =
      let l = keys_at (key_place OIn) part in
      let n = length part / entry_words in
      let k = low + width / 2 in
      let at : get_or l k 0 ≡ there = get_or_up_to (λ j. key_by (key_place OIn) (trip_at part j)) n k 0 (middle_in part key low width w) ∙ sym f in
      let step = narrow_step key l low width w (keys_climb OIn part small in_rows) h in
      subst (λ (x : ℕ). Narrowed key l x (width - width / 2))
      (ap (λ (x : ℕ). low + cond (leb x key) (width / 2) 0) at ∙ either (leb there key) low (width / 2) ∙ sym g) step

  -- where one place is left at which its key may stand, the row there decides
  pub found_there : (low width : ℕ) → Narrowed key (keys_at (key_place OIn) part) low width → width ≤ 1
      → same_trip t (trip_at part low) ≡ some (same_trip t) (rows part)
  found_there low width w h =
      let n = length part / entry_words in
      let keys : ℕ → ℕ = λ k. key_by (key_place OIn) (trip_at part k) in
      let l : low < n = omega (arith, middle_in part key low width w) in
      let m : Mem (get_or (rows part) low no_trip) (rows part) = at_mem no_trip (rows part) low (rw length-rows l) in
      bool_ext (same_trip t (trip_at part low)) (some (same_trip t) (rows part))
      (to_some (same_trip t) (rows part) (trip_at part low) (rw (get_or_rows part low no_trip l) at m))
      (λ u.
      let v = of_some (same_trip t) (rows part) u in
      let m : Mem t (rows part) = rw (of_same t v.0 v.2) v.1 in
      let at = mem_at no_trip t m in
      let j = at.0 in
      let g : j < n = rw length-rows at at.1 in
      let there : trip_at part j ≡ t = sym (get_or_rows part j no_trip g) ∙ at.2 in
      let only = w.only j (rw length-up_to g) (get_or_up_to keys n j 0 g ∙ ap (key_by (key_place OIn)) there ∙ sym e) in
      let q : j ≡ low = omega (arith, only) in
      subst (λ (x : Trip). T (same_trip t x)) (sym (ap (trip_at part) (sym q) ∙ there)) (same_refl t))

-- ---- the slots of originals

one_order : (aft : Bool) (l : List Trip) → Sorted (order (subdivision_of Originals aft)) l → Sorted (order OIn) l
unfolding subdivision_of order
one_order true l s = s
one_order false l s = s

pub slot_in_order : (s : Scale) (dir arena : List ℕ) (n : ℕ) → length dir ≡ n + 1 → slots_ok s Originals dir arena ≡ true → (k : ℕ) → k < n
    → InOrder (order OIn) no_trip (slot_at dir arena k) (length (slot_at dir arena k))
unfolding slots_ok slot_ok
slot_in_order s dir arena n l e k h =
    let row = of_below (λ j. slot_ok s Originals j (slot_at dir arena j)) _ (to_T e) k (omega arith) in
    let d = subdivision_of Originals (eqb (k % 2) 1) in
    in_order no_trip (order OIn) (one_order (eqb (k % 2) 1) (slot_at dir arena k) (row_sorted _ (slot-order d) (slot_at dir arena k) row))
