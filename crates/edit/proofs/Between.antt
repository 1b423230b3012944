-- An edit of one half, slot after slot: from the words of the index x to those of the trips ts, which differ from the trips of x only in the
-- slots of the trip t.
use mathlib.Core.Path.{◌≡◌, sym, ap, subst, ◌∙◌}
use mathlib.Core.Bool.{true}
use mathlib.Core.List.{List, []}
use Prim.Native.Nat.{ℕ, ◌*◌, ◌≤◌, ◌<◌}
use lib.ListN.{length, get_or}
use Rattle.lists.specs.Lists.{cons_if, up_to}
use Rattle.lists.proofs.Padded.{padded-length}
use Rattle.lists.proofs.Upto.{length-up_to, get_or_up_to}
use Rattle.lists.proofs.Halving.{in_order}
use Rattle.ruler.specs.Ruler.{Scale}
use Rattle.trip.specs.declared.Trip.{Trip}
use Rattle.layout.specs.declared.Half.{Half}
use Rattle.layout.specs.declared.Half.TheVariants.{Originals, Replicas}
use Rattle.layout.specs.Words.{entry_words, words, order, partitions, slot, entries, Index, lengths_of, subdivision_at}
use Rattle.layout.specs.Words as laid
use Rattle.layout.specs.Refusals.{table_of}
use Rattle.store.specs.TripWalk.{slots_of_trip}
use Rattle.layout.proofs.Rows.{words-length}
use Rattle.layout.proofs.RowOrder.{Distinct, slot_sorted}
use Rattle.layout.proofs.Chains.{Room}
use Rattle.store.proofs.TripWalk.{those, walk_once, walk-below}
use Rattle.layout.proofs.SlotMembers.{in_slot}
use Rattle.store.specs.Slots.{Holds}
use Rattle.store.specs.Parts.{arena_of}
use Rattle.store.specs.Ordered.{no_trip}
use Rattle.store.proofs.LayoutHeld.{laid_holds, holds_laid}
use Rattle.edit.specs.SlotFound.{Orderly}
use Rattle.edit.specs.HalfEdited.{HalfOf}
use Rattle.edit.specs.SlotSteps.{slots_after, Passing}
use Rattle.edit.proofs.Halfway.{among_those, few_once, Spots, spot_among, halfway_start, halfway_end, spot_in, halfway_here}

-- the room that the whole table has is in this half's arena
pub room_in : (s : Scale) (half : Half) (ts : List Trip) (x : Index) → Room s ts (lengths_of x)
    → entry_words * length (entries s half ts) ≤ length (arena_of half x.originals x.replicas)
unfolding lengths_of
room_in s Originals ts x r = r.for_originals
room_in s Replicas ts x r = r.for_replicas

module _ (s : Scale) (half : Half) (x : Index) (t : Trip) (ts : List Trip) where
  module _ (dir arena : List ℕ) (p : Passing s half x t ts dir arena) where
    pub no_twice : Distinct (table_of s x)
    no_twice = p.is-index.table.rows_ok.distinct

    visited : (k : ℕ) → k < 2 * partitions s.m → those k (slots_of_trip s half t) ≡ cons_if (in_slot s half k t) k []
    visited k l = walk_once s half t k p.end_in l

    pub spots : Spots (slot s half (table_of s x)) (slot s half ts) (2 * partitions s.m) (slots_of_trip s half t)
    spots = record {
      below = walk-below s half t p.end_in;
      once = λ k l. few_once (in_slot s half k t) k (visited k l);
      others = λ k l e. p.others k (sym (among_those k (slots_of_trip s half t) (in_slot s half k t) (visited k l)) ∙ e);
    }

    pub start : Holds dir arena (slots_after s half x t ts 0)
    start =
        let old = arena_of half x.originals x.replicas in
        subst (Holds dir arena) (sym (halfway_start _ _ _ _ spots))
        (laid_holds s half (table_of s x) dir arena (length old) p.words_are.directory-is p.words_are.arena-is)

    -- the arena is as long as it was
    pub long : length arena ≡ length (arena_of half x.originals x.replicas)
    unfolding laid.arena
    long =
        ap length p.words_are.arena-is
        ∙ padded-length (length (arena_of half x.originals x.replicas)) (words (entries s half (table_of s x)))
        (rw words-length (room_in s half (table_of s x) x p.is-index.table.room))

    module _ (j : ℕ) (h : j < length (slots_of_trip s half t)) where
      pub inside : get_or (slots_of_trip s half t) j 0 < 2 * partitions s.m
      inside = spot_in _ _ _ _ spots j h

      -- the slot of spot j is still that of the table
      pub unchanged : get_or (slots_after s half x t ts j) (get_or (slots_of_trip s half t) j 0) [] ≡ slot s half (table_of s x) (get_or (slots_of_trip s half t) j 0)
      unchanged = get_or_up_to _ (2 * partitions s.m) _ [] inside ∙ halfway_here _ _ _ _ spots j h

      -- and one of the trip's
      pub belongs : in_slot s half (get_or (slots_of_trip s half t) j 0) t ≡ true
      belongs = sym (among_those _ (slots_of_trip s half t) _ (visited _ inside)) ∙ spot_among (slots_of_trip s half t) j h

      pub orderly : (D A : List ℕ) → Holds D A (slots_after s half x t ts j) → Orderly D A (slots_after s half x t ts j) half (get_or (slots_of_trip s half t) j 0)
      orderly D A w = record {
        holds = w;
        slot_in = rw length-up_to inside;
        in_order = rw unchanged (in_order no_trip (order (subdivision_at half (get_or (slots_of_trip s half t) j 0)))
            (slot_sorted s half (table_of s x) (get_or (slots_of_trip s half t) j 0) no_twice));
      }

    -- after the last slot the words are those of the trips ts
    pub end : (cs : List ℕ) → cs ≡ slots_of_trip s half t → (D A : List ℕ) (j : ℕ) → length A ≡ length arena → Holds D A (slots_after s half x t ts j) → j ≡ length cs
        → HalfOf s half ts x D A
    end cs e D A j size w q =
        let last : j ≡ length (slots_of_trip s half t) = q ∙ ap length e in
        let done : Holds D A (up_to (slot s half ts) (2 * partitions s.m)) =
        subst (Holds D A) (halfway_end _ _ _ _ spots) (subst (λ (i : ℕ). Holds D A (slots_after s half x t ts i)) last w) in
        let v = holds_laid s half ts D A done in
        record { directory-is = v.0; arena-is = subst (λ (n : ℕ). A ≡ laid.arena s half ts n) (size ∙ long) v.1 }
