-- A removal, slot after slot: one half of an index, from its words to those without the trip.
use mathlib.Core.Path.{◌≡◌, sym, ap, ◌∙◌}
use mathlib.Core.List.{List, [], Memᴰ as Mem}
use Prim.Native.Nat.{ℕ, ◌+◌, ◌^◌, ◌<◌}
use lib.ListN.{length, get_or}
use Rattle.ruler.specs.Ruler.{Scale}
use Rattle.trip.specs.declared.Trip.{Trip}
use Rattle.layout.specs.declared.Half.{Half}
use Rattle.layout.specs.Words.{slot, Index, subdivision_at}
use Rattle.layout.specs.Outcomes.{Accepted}
use Rattle.layout.specs.Refusals.{table_of, remove_outcome, Fits}
use Rattle.layout.specs.Calls.{without}
use Rattle.store.specs.TripWalk.{slots_of_trip}
use Rattle.layout.proofs.RowOrder.{Distinct, slot_sorted, slot_distinct}
use Rattle.layout.proofs.EditsBuild.{Removable, of_remove}
use Rattle.layout.proofs.SlotEdited.{slot-without, slot_has, slot-same-removed}
use Rattle.store.specs.Slots.{removed, removed_in, Holds}
use Rattle.store.specs.Ordered.{preceding}
use Rattle.store.proofs.Found.{remove_place}
use Rattle.edit.specs.SlotFound.{place_in, Present}
use Rattle.edit.specs.HalfEdited.{HalfOf}
use Rattle.edit.specs.SlotSteps.{slots_after, Passing, Steps}
use Rattle.edit.proofs.Halfway.{halfway_turn}
use Rattle.edit.proofs.Between.{spots, unchanged, belongs, orderly}

-- the half's words in x, from which the trip can be removed
pub record Removing (s : Scale) (half : Half) (x : Index) (t : Trip) (dir arena : List ℕ) : Type 0 where
  pub accepted : remove_outcome s x t.id ≡ Accepted
  pub fits : Fits s t
  pub end_in : s.cell t.end < 2 ^ s.m
  pub present : Mem t (table_of s x)
  pub words_are : HalfOf s half (table_of s x) x dir arena

module _ (s : Scale) (half : Half) (x : Index) (t : Trip) (dir arena : List ℕ) (a : Removing s half x t dir arena) where
  -- the slots after the first j of the trip's
  abbrev pub shrunk_slots : (j : ℕ) → List (List Trip)
  shrunk_slots j = slots_after s half x t (without t.id (table_of s x)) j

  facts : Removable s x t.id
  facts = of_remove s x t.id a.accepted

  distinct : Distinct (table_of s x)
  distinct = facts.is-index.table.rows_ok.distinct

  passing : Passing s half x t (without t.id (table_of s x)) dir arena
  passing = record {
    is-index = facts.is-index;
    fits = a.fits;
    end_in = a.end_in;
    words_are = a.words_are;
    others = λ k e. slot-same-removed s half t (table_of s x) k distinct a.present e;
  }

  module _ (j : ℕ) (h : j < length (slots_of_trip s half t)) where
    spot : ℕ
    spot = get_or (slots_of_trip s half t) j 0

    still : get_or (shrunk_slots j) spot [] ≡ slot s half (table_of s x) spot
    unfolding spot
    still = unchanged s half x t (without t.id (table_of s x)) dir arena passing j h

    has : Mem t (slot s half (table_of s x) spot)
    unfolding spot
    has = slot_has s half t (table_of s x) spot distinct a.present (belongs s half x t (without t.id (table_of s x)) dir arena passing j h)

    present : (D A : List ℕ) → Holds D A (shrunk_slots j) → Present D A (shrunk_slots j) half (get_or (slots_of_trip s half t) j 0) t
    unfolding spot
    present D A w = record { orderly = orderly s half x t (without t.id (table_of s x)) dir arena passing j h D A w; here = rw still has }

    here_gone : removed_in spot (place_in half spot t (shrunk_slots j)) (shrunk_slots j) ≡ shrunk_slots (j + 1)
    unfolding spot
    here_gone =
        let l = slot s half (table_of s x) spot in
        let d = subdivision_at half spot in
        let gone = remove_place d t l (slot_sorted s half (table_of s x) spot distinct) (slot_distinct s half (table_of s x) spot distinct) has in
        halfway_turn _ _ _ _ (spots s half x t (without t.id (table_of s x)) dir arena passing) j h
        (removed (place_in half spot t (shrunk_slots j)))
        (slot-without s half t (table_of s x) spot distinct a.present ∙ sym gone
        ∙ ap (λ (y : List Trip). removed (preceding d t y) l) (sym still))

-- a removal is made step by step
pub removes : (s : Scale) (half : Half) (x : Index) (t : Trip) (dir arena : List ℕ) → Removing s half x t dir arena
    → Steps (λ dir arena ls half slot t. Present dir arena ls half slot t) (λ half slot t ls. removed_in slot (place_in half slot t ls) ls)
    s x t (without t.id (table_of s x)) half dir arena
unfolding spot
removes s half x t dir arena a = record {
  passing = passing s half x t dir arena a;
  readied = λ D A j h size. present s half x t dir arena a j h D A;
  turned = here_gone s half x t dir arena a;
}
