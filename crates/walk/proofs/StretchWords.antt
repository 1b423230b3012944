-- The words of an index: the entries between two words of the directory are those of the slots between them.
use mathlib.Core.Path.{◌≡◌, refl, sym, ap, ◌∙◌}
use mathlib.Core.Bool.{Bool, true, false}
use mathlib.Core.List.{List}
use Prim.Native.Nat.{ℕ, zero, suc, ◌+◌, ◌*◌, ◌/◌, ◌%◌, ◌^◌, ◌≤◌, ◌<◌}
use native.Mathlib.Nat.{two-pow-succ}
use native.Mathlib.Numerals.{add-one}
use native.Mathlib.Omega.{arith}
use lib.Dec.{eqb}
use borrow.Author.Tests.{lt-ltb, le-ltb}
use lib.Pow.{pow_pos, pow_mono}
use lib.ListN.{length}
use Rattle.lists.specs.Lists.{joined}
use Rattle.lists.proofs.Joined.{joined_ext}
use Rattle.lists.proofs.Sorting.{Sorted}
use Rattle.lists.proofs.Members.{none}
use Rattle.lists.proofs.Halving.{in_order}
use Rattle.ruler.specs.Ruler.{Scale}
use Rattle.trip.specs.declared.Trip.{Trip}
use Rattle.layout.specs.declared.Half.{Half}
use Rattle.layout.specs.Stored.{subdivision_of}
use Rattle.layout.specs.Words.{entry_words, rows, trip_at, order, partitions, partition_number, slot}
use Rattle.layout.proofs.RowOrder.{Distinct, slot_sorted}
use Rattle.layout.proofs.Rows.{length-rows, get_or_rows, rows_words}
use Rattle.layout.proofs.ByDirectory.{LaidFrom, slot-from}
use Rattle.store.specs.Parts.{part_words, PartThere}
use Rattle.store.proofs.Parts.{laid_there, laid_words}
use Rattle.plan.specs.Plan.{first_slot, stretch}
use Rattle.plan.proofs.Looked.{slot_from, slots_from}
use Rattle.walk.proofs.LevelSlots.{InTurn, after_in, SlotsThere}

-- ---- the entries between two words

module _ {s : Scale} {h : Half} {ts : List Trip} {d : List ℕ} {base : ℕ} {l : List ℕ} (w : LaidFrom s h ts d base l) where
  -- the slots j .. j + c - 1
  slots_are : (j c : ℕ) → j + c ≤ 2 * partitions s.m → rows (part_words d l (base + j) (base + (j + c))) ≡ joined (λ i. slot s h ts (j + i)) c
  slots_are j c in_half_lem = ap rows (laid_words w j c in_half_lem) ∙ rows_words (joined (λ i. slot s h ts (j + i)) c)

-- ---- the slots of a partition, in their order

-- what is in order as rows is in order as words
in_turn : (lt : Trip → Trip → Bool) (l : List ℕ) → Sorted lt (rows l) → (i k : ℕ) → i < k → k < length l / entry_words
    → lt (trip_at l i) (trip_at l k) ≡ true
in_turn lt l w i k h g =
    let n = length-rows l in
    rw (← get_or_rows l i (trip_at l 0) (omega arith), ← get_or_rows l k (trip_at l 0) g) (in_order (trip_at l 0) lt w i k h (omega arith))

module _ {s : Scale} {h : Half} {ts : List Trip} {d : List ℕ} {base : ℕ} {l : List ℕ} (w : LaidFrom s h ts d base l) (distinct : Distinct ts)
    (sure : Bool) where
  -- a stretch of one slot, and one of none
  one_turns : (aft : Bool) (j : ℕ) → j + 1 ≤ 2 * partitions s.m → eqb (j % 2) 1 ≡ aft
      → InTurn h aft (part_words d l (base + j) (base + (j + 1)))
  unfolding joined
  one_turns aft j in_half_lem e =
      let zero_more : j + 0 ≡ j = omega arith in
      in_turn (order (subdivision_of h aft)) _
      (rw (slots_are w j 1 in_half_lem, zero_more) (rw e at (slot_sorted s h ts j distinct)))

  none_turns : (aft : Bool) (j : ℕ) → j + 0 ≤ 2 * partitions s.m → InTurn h aft (part_words d l (base + j) (base + (j + 0)))
  unfolding joined
  none_turns aft j in_half_lem = in_turn (order (subdivision_of h aft)) _ (rw (slots_are w j 0 in_half_lem) none)

  -- the first slots of a partition: none, the "in" slot, or both
  slots_in_turn : (j n : ℕ) → n ≤ 2 → j % 2 ≡ 0 → j + n ≤ 2 * partitions s.m → SlotsThere h d l (stretch (base + j) (base + (j + n)) sure)
  slots_in_turn j zero few even in_half_lem =
      let same : base + (j + 0) ≡ base + j = omega arith in
      let after : after_in (stretch (base + j) (base + (j + 0)) sure) ≡ base + j = rw (le-ltb (base + j) (base + (j + 0)) (omega arith)) refl in
      let here = laid_there w j 0 in_half_lem in
      let turns : (aft : Bool) → InTurn h aft (part_words d l (base + j) (base + j)) = λ aft.
      rw same at (none_turns aft j in_half_lem) in
      record {
        whole = here;
        in_there = rw after (rw same at here);
        aft_there = rw after here;
        in_order = rw after (turns false);
        aft_order = rw after (none_turns true j in_half_lem);
      }
  slots_in_turn j (suc zero) few even in_half_lem =
      let next : base + (j + 1) ≡ base + j + 1 = omega arith in
      let end : base + (j + 1 + 0) ≡ base + (j + 1) = omega arith in
      let after : after_in (stretch (base + j) (base + (j + 1)) sure) ≡ base + (j + 1) =
      rw (lt-ltb (base + j) (base + (j + 1)) (omega arith)) (sym next)
      in
      record {
        whole = laid_there w j 1 in_half_lem;
        in_there = rw after (laid_there w j 1 in_half_lem);
        aft_there = rw after (rw end at (laid_there w (j + 1) 0 (omega arith)));
        in_order = rw after (one_turns false j in_half_lem (rw even refl));
        aft_order = rw after (rw end at (none_turns true (j + 1) (omega arith)));
      }
  slots_in_turn j (suc (suc zero)) few even in_half_lem =
      let next : base + (j + 1) ≡ base + j + 1 = omega arith in
      let end : base + (j + 1 + 1) ≡ base + (j + 2) = omega arith in
      let odd : (j + 1) % 2 ≡ 1 = omega arith in
      let after : after_in (stretch (base + j) (base + (j + 2)) sure) ≡ base + (j + 1) =
      rw (lt-ltb (base + j) (base + (j + 2)) (omega arith)) (sym next)
      in
      record {
        whole = laid_there w j 2 in_half_lem;
        in_there = rw after (laid_there w j 1 (omega arith));
        aft_there = rw after (rw end at (laid_there w (j + 1) 1 (omega arith)));
        in_order = rw after (one_turns false j (omega arith) (rw even refl));
        aft_order = rw after (rw end at (one_turns true (j + 1) (omega arith) (rw odd refl)));
      }
  slots_in_turn j (suc (suc (suc n))) few even in_half_lem = absurd (omega arith)

-- ---- the slots of a level

module _ (s : Scale) (h : Half) (ts : List Trip) (L i n : ℕ) (deep : L ≤ s.m) (inside : 2 * i + n ≤ 2 * 2 ^ L) where
  slot_is : (q : ℕ) → q < n → slot s h ts (first_slot L i + q) ≡ slot_from s h ts L i q
  unfolding first_slot slot_from
  slot_is q l = slot-from s h ts L i deep q (omega arith)

  level_slots : joined (λ q. slot s h ts (first_slot L i + q)) n ≡ slots_from s h ts L i n
  unfolding slots_from
  level_slots = joined_ext _ _ n slot_is

  level_in : first_slot L i + n ≤ 2 * partitions s.m
  unfolding first_slot partition_number partitions
  level_in = rw add-one (omega (arith, pow_mono deep, two-pow-succ s.m, pow_pos L))

-- so a stretch from a level's slot on has the entries of the level's slots
module _ {s : Scale} {h : Half} {ts : List Trip} {d : List ℕ} {base : ℕ} {l : List ℕ} (w : LaidFrom s h ts d base l) (L i n : ℕ) (deep : L ≤ s.m)
    (inside : 2 * i + n ≤ 2 * 2 ^ L) {from to : ℕ} (at_from : from ≡ base + first_slot L i) (at-to : to ≡ base + (first_slot L i + n))
  where
    pub stretch-is : rows (part_words d l from to) ≡ slots_from s h ts L i n
    stretch-is =
        rw (at_from, at-to) (slots_are w (first_slot L i) n (level_in s h ts L i n deep inside) ∙ level_slots s h ts L i n deep inside)

    pub stretch-there : PartThere d l from to
    stretch-there = rw (at_from, at-to) (laid_there w (first_slot L i) n (level_in s h ts L i n deep inside))

    -- and the first slots of a partition are in their order
    pub partition_there : (sure : Bool) → n ≤ 2 → Distinct ts → SlotsThere h d l (stretch from to sure)
    unfolding first_slot
    partition_there sure few distinct = rw (at_from, at-to) (slots_in_turn w distinct sure (first_slot L i) n few (omega arith)
        (level_in s h ts L i n deep inside))
