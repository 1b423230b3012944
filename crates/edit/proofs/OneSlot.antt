-- What the words of a half with an orderly slot say of the slot's part of the arena, and the room or the entry that an edit finds there.
use mathlib.Core.Path.{◌≡◌, ap, ◌∙◌}
use mathlib.Core.List.{List, []}
use Prim.Native.Nat.{ℕ, ◌+◌}
use lib.ListN.{length, get_or}
use Rattle.lists.specs.Sifting.{InOrder}
use Rattle.lists.proofs.Halving.{sorted_of}
use Rattle.trip.specs.declared.Trip.{Trip}
use Rattle.layout.specs.declared.Half.{Half}
use Rattle.layout.specs.declared.Subdivision.{Subdivision}
use Rattle.layout.specs.Words.{rows, order, subdivision_at}
use Rattle.store.specs.Slots.{Room, There}
use Rattle.store.specs.Ordered.{preceding, no_trip}
use Rattle.store.specs.Parts.{PartThere, part_in}
use Rattle.store.proofs.Parts as parts
use Rattle.store.proofs.Parts.{part_words_lem}
use Rattle.store.proofs.Found.{place_most, found_place}
use Rattle.edit.specs.SlotFound.{place_in, Orderly, Vacant, Present}

module _ (dir arena : List ℕ) (ls : List (List Trip)) (half : Half) (slot : ℕ) (o : Orderly dir arena ls half slot) where
  pub slot-there : PartThere dir arena slot (slot + 1)
  slot-there = parts.slot-there dir arena ls slot o.holds o.slot_in

  -- the part that the search is given has the slot's rows
  module _ {part : List ℕ} (is : part ≡ part_in dir arena slot (slot + 1)) where
    part_rows : rows part ≡ get_or ls slot []
    part_rows = ap rows (is ∙ part_words_lem dir arena slot (slot + 1) slot-there) ∙ parts.slot-rows dir arena ls slot o.holds o.slot_in

    -- they are in order, and a place found in them is one of the slot
    pub part_ordered : (d : Subdivision) → d ≡ subdivision_at half slot → InOrder (order d) no_trip (rows part) (length (rows part))
    part_ordered d e = rw (e, part_rows) o.in_order

    pub part_place : (d : Subdivision) (t : Trip) (r : ℕ) → d ≡ subdivision_at half slot → r ≡ preceding d t (rows part) → r ≡ place_in half slot t ls
    part_place d t r e q = q ∙ rw (e, part_rows)

-- there is room at the trip's place
pub room_at : (dir arena : List ℕ) (ls : List (List Trip)) (half : Half) (slot : ℕ) (t : Trip) → Vacant dir arena ls half slot
    → Room dir arena ls slot (place_in half slot t ls)
room_at dir arena ls half slot t v = record {
  holds = v.orderly.holds;
  slot_in = v.orderly.slot_in;
  pos_in = place_most (subdivision_at half slot) t (get_or ls slot []);
  room = v.room;
  few = v.few;
}

-- the trip's entry is at its place
pub there_at : (dir arena : List ℕ) (ls : List (List Trip)) (half : Half) (slot : ℕ) (t : Trip) → Present dir arena ls half slot t
    → There dir arena ls slot (place_in half slot t ls)
there_at dir arena ls half slot t p =
    let d = subdivision_at half slot in
    let l = get_or ls slot [] in
    record {
      holds = p.orderly.holds;
      slot_in = p.orderly.slot_in;
      pos_in = (found_place d t l (sorted_of no_trip (order d) l p.orderly.in_order) p.here).0;
    }
