-- An addition, slot after slot: one half of an index, from its words to those with the trip.
use mathlib.Core.Path.{◌≡◌, sym, ap, ◌∙◌}
use mathlib.Core.Bool.{true}
use mathlib.Core.List.{List, [], ◌∷◌}
use Prim.Native.Nat.{ℕ, zero, suc, ◌+◌, ◌*◌, ◌^◌, ◌≤◌, ◌<◌}
use native.Mathlib.Nat.{le_of_suc-le-suc, not-suc-le-zero}
use native.Mathlib.Omega.{arith}
use lib.ListN.{length, get_or, set, take, drop, length-append, take-append-drop}
use Rattle.lists.proofs.Upto.{length-up_to}
use Rattle.ruler.specs.Ruler.{Scale, deepest}
use Rattle.trip.specs.declared.Trip.{Trip}
use Rattle.layout.specs.declared.Half.{Half}
use Rattle.layout.specs.Words.{partitions, slot, entries_before, entries, Index, subdivision_at}
use Rattle.layout.specs.Outcomes.{Accepted}
use Rattle.layout.specs.Refusals.{table_of, add_outcome, Fits}
use Rattle.store.specs.TripWalk.{slots_of_trip}
use Rattle.layout.proofs.Rows.{words_le, words-add}
use Rattle.layout.proofs.EditsBuild.{Addable, of_add, added-table}
use Rattle.layout.proofs.SlotMembers.{in_slot}
use Rattle.layout.proofs.RowOrder.{slot_sorted}
use Rattle.layout.proofs.SlotEdited.{slot_gets, slot-same-added, slot_longer, slot_fresh}
use Rattle.layout.proofs.MostEntries.{entries_most}
use Rattle.store.specs.Slots.{flat, inserted, inserted_in, Holds}
use Rattle.store.specs.Ordered.{preceding}
use Rattle.store.proofs.LayoutHeld.{flat-up_to}
use Rattle.store.proofs.Found.{insert_place}
use Rattle.edit.specs.SlotFound.{place_in, Vacant}
use Rattle.edit.specs.HalfEdited.{HalfOf}
use Rattle.edit.specs.SlotSteps.{slots_after, Passing, Steps}
use Rattle.edit.proofs.Halfway.{Spots, halfway_turn, halfway_most}
use Rattle.edit.proofs.Between.{room_in, spots, long, inside, unchanged, belongs, orderly}

-- ---- one entry more

length_inserted : (p : ℕ) (t : Trip) (l : List Trip) → length (inserted p t l) ≡ length l + 1
length_inserted p t l =
    omega (arith, length-append (take p l) (t ∷ drop p l), length-append (take p l) (drop p l), ap length (take-append-drop p l))

flat-more : (k : ℕ) (ls : List (List Trip)) (x : List Trip) → k < length ls → length x ≡ length (get_or ls k []) + 1
    → length (flat (set ls k x)) ≡ length (flat ls) + 1
flat-more k [] x h e = absurd (not-suc-le-zero h)
flat-more zero (l ∷ ls) x h e = rw (length-append, length-append) (omega arith)
flat-more (suc k) (l ∷ ls) x h e = rw (length-append, length-append) (omega (arith, flat-more k ls x (le_of_suc-le-suc h) e))

-- ---- the slots of the half

-- the half's words in x, to which the trip can be added; the scale is no deeper than a ruler's, and the trip fits it
pub record Adding (s : Scale) (half : Half) (x : Index) (t : Trip) (dir arena : List ℕ) : Type 0 where
  pub deep : s.m ≤ deepest
  pub accepted : add_outcome s x t ≡ Accepted
  pub fits : Fits s t
  pub end_in : s.cell t.end < 2 ^ s.m
  pub words_are : HalfOf s half (table_of s x) x dir arena

module _ (s : Scale) (half : Half) (x : Index) (t : Trip) (dir arena : List ℕ) (a : Adding s half x t dir arena) where
  -- the slots after the first j of the trip's
  abbrev pub grown_slots : (j : ℕ) → List (List Trip)
  grown_slots j = slots_after s half x t (t ∷ table_of s x) j

  facts : Addable s x t
  facts = of_add s x t a.accepted

  passing : Passing s half x t (t ∷ table_of s x) dir arena
  passing = record {
    is-index = facts.is-index;
    fits = a.fits;
    end_in = a.end_in;
    words_are = a.words_are;
    others = λ k e. slot-same-added s half t (table_of s x) k e;
  }

  module _ (j : ℕ) (h : j < length (slots_of_trip s half t)) where
    spot : ℕ
    spot = get_or (slots_of_trip s half t) j 0

    still : get_or (grown_slots j) spot [] ≡ slot s half (table_of s x) spot
    unfolding spot
    still = unchanged s half x t (t ∷ table_of s x) dir arena passing j h

    in_half_lem : spot < 2 * partitions s.m
    unfolding spot
    in_half_lem = inside s half x t (t ∷ table_of s x) dir arena passing j h

    its_own : in_slot s half spot t ≡ true
    unfolding spot
    its_own = belongs s half x t (t ∷ table_of s x) dir arena passing j h

    all_spots : Spots (slot s half (table_of s x)) (slot s half (t ∷ table_of s x)) (2 * partitions s.m) (slots_of_trip s half t)
    all_spots = spots s half x t (t ∷ table_of s x) dir arena passing

    here_put : inserted_in spot (place_in half spot t (grown_slots j)) t (grown_slots j) ≡ grown_slots (j + 1)
    unfolding spot
    here_put =
        let l = slot s half (table_of s x) spot in
        let d = subdivision_at half spot in
        let sorted = slot_sorted s half (table_of s x) spot facts.is-index.table.rows_ok.distinct in
        let fresh = slot_fresh s half t (table_of s x) spot facts.row_ok.fresh in
        halfway_turn _ _ _ _ all_spots j h (inserted (place_in half spot t (grown_slots j)) t)
        (slot_gets s half t (table_of s x) spot its_own ∙ insert_place d t l sorted fresh
        ∙ ap (λ (y : List Trip). inserted (preceding d t y) t l) (sym still))

    one_more : length (flat (grown_slots j)) + 1 ≤ length (entries s half (t ∷ table_of s x))
    unfolding entries entries_before
    one_more =
        let p = place_in half spot t (grown_slots j) in
        let more = flat-more spot (grown_slots j) (inserted p t (get_or (grown_slots j) spot [])) (rw length-up_to in_half_lem) (length_inserted p t (get_or
        (grown_slots j) spot [])) in
        let most = halfway_most _ _ _ _ all_spots (λ k. slot_longer s half t (table_of s x) k) (j + 1) in
        omega (
          arith,
          more,
          ap (λ (y : List (List Trip)). length (flat y)) here_put,
          most,
          ap length (flat-up_to (slot s half (t ∷ table_of s x))
              (2 * partitions s.m)),
        )

    vacant : (D A : List ℕ) → length A ≡ length arena → Holds D A (grown_slots j)
        → Vacant D A (grown_slots j) half (get_or (slots_of_trip s half t) j 0)
    vacant D A size w = record {
      orderly = orderly s half x t (t ∷ table_of s x) dir arena passing j h D A w;
      room =
          let all = room_in s half (t ∷ table_of s x) x facts.room in
          let n = length (flat (grown_slots j)) in
          omega (arith, words_le one_more, words-add n 1, all, size ∙ long s half x t (t ∷ table_of s x) dir arena passing);
      few = omega (arith, one_more, entries_most s a.deep (t ∷ table_of s x) (added-table s x t facts).few half);
    }

-- an addition is made step by step
pub adds : (s : Scale) (half : Half) (x : Index) (t : Trip) (dir arena : List ℕ) → Adding s half x t dir arena
    → Steps (λ dir arena ls half slot t. Vacant dir arena ls half slot) (λ half slot t ls. inserted_in slot (place_in half slot t ls) t ls)
    s x t (t ∷ table_of s x) half dir arena
unfolding spot
adds s half x t dir arena a = record {
  passing = passing s half x t dir arena a;
  readied = λ D A j h. vacant s half x t dir arena a j h D A;
  turned = here_put s half x t dir arena a;
}
