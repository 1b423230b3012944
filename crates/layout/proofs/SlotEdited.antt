-- One slot of a half in an edit: what the slot of a table is after an addition and after a removal, and what an edit may rely on.
use mathlib.Core.Path.{◌≡◌, refl, sym, ap, subst, ◌∙◌}
use mathlib.Core.Bool.{Bool, true, false, cond, not}
use mathlib.Core.List.Memᴰ.{head as here}
use mathlib.Core.List.Memᴰ.{tail as there}
use mathlib.Core.List.{List, [], ◌∷◌, Memᴰ as Mem}
use Prim.Native.Nat.{ℕ, ◌/◌, ◌≤◌}
use native.Mathlib.Omega.{arith}
use lib.Dec.{T, eqb, eqb→eq, not_T}
use lib.ListN.{length}
use Rattle.lists.specs.Lists.{cons_if, keep, insert}
use Rattle.lists.proofs.Tests.{of_T, to_T}
use Rattle.lists.proofs.Members.{length-sort}
use Rattle.ruler.specs.Ruler.{Scale}
use Rattle.trip.specs.declared.Trip.{Trip}
use Rattle.layout.specs.declared.Half.{Half}
use Rattle.layout.specs.Words.{order, level_of, place_of, slot_trips, subdivision_at, slot}
use Rattle.layout.specs.Calls.{without}
use Rattle.layout.proofs.RowOrder.{OtherId, Distinct}
use Rattle.layout.proofs.SlotMembers.{of_slot, to_slot, same_id, in_slot}
use Rattle.layout.proofs.SortedLists.{slot_trips-add, slot_trips-without}

-- the order of slot k of a half
abbrev pub slot_order : Half → (k : ℕ) → Trip → Trip → Bool
slot_order h k = order (subdivision_at h k)

-- ---- an addition

no_shorter : (b : Bool) (t : Trip) (l : List Trip) → length l ≤ length (cons_if b t l)
no_shorter true t l = omega arith
no_shorter false t l = omega arith

module _ (s : Scale) (h : Half) (t : Trip) (ts : List Trip) (k : ℕ) where
  slot-add : slot s h (t ∷ ts) k ≡ cond (in_slot s h k t) (insert (slot_order h k) t (slot s h ts k)) (slot s h ts k)
  unfolding slot
  slot-add = slot_trips-add s (subdivision_at h k) (level_of s.m (k / 2)) (place_of s.m (k / 2)) t ts

  -- a slot in which the trip belongs gets it in its place
  pub slot_gets : in_slot s h k t ≡ true → slot s h (t ∷ ts) k ≡ insert (slot_order h k) t (slot s h ts k)
  slot_gets e = slot-add ∙ ap (λ (b : Bool). cond b (insert (slot_order h k) t (slot s h ts k)) (slot s h ts k)) e

  -- and any other stays
  pub slot-same-added : in_slot s h k t ≡ false → slot s h (t ∷ ts) k ≡ slot s h ts k
  slot-same-added e = slot-add ∙ ap (λ (b : Bool). cond b (insert (slot_order h k) t (slot s h ts k)) (slot s h ts k)) e

  -- no slot gets shorter
  pub slot_longer : length (slot s h ts k) ≤ length (slot s h (t ∷ ts) k)
  unfolding slot slot_trips keep
  slot_longer = rw (length-sort, length-sort) (no_shorter (in_slot s h k t) t (keep (λ (u : Trip). in_slot s h k u) ts))

  -- a new id is new in each slot
  pub slot_fresh : ((u : Trip) → Mem u ts → u.id ≡ t.id → ⊥) → (u : Trip) → Mem u (slot s h ts k) → OtherId t u
  slot_fresh n u m e = n u (of_slot s h ts k u m).0 (sym e)

-- ---- a removal

module _ (s : Scale) (h : Half) (t : Trip) (ts : List Trip) (k : ℕ) (d : Distinct ts) (m : Mem t ts) where
  -- every slot loses the trip
  pub slot-without : slot s h (without t.id ts) k ≡ without t.id (slot s h ts k)
  unfolding slot
  slot-without = slot_trips-without s (subdivision_at h k) (level_of s.m (k / 2)) (place_of s.m (k / 2)) t.id ts d

  -- a slot in which the trip belongs has it
  pub slot_has : in_slot s h k t ≡ true → Mem t (slot s h ts k)
  slot_has e = to_slot s h ts k t m (to_T e)

  keep_all : (l : List Trip) → ((u : Trip) → Mem u l → u.id ≡ t.id → ⊥) → without t.id l ≡ l
  unfolding without keep
  keep_all [] n = refl
  keep_all (u ∷ l) n =
      rw (of_T (not (eqb u.id t.id)) (not_T (eqb u.id t.id) (λ q. n u (here refl) (eqb→eq u.id t.id q))))
      (ap (λ (r : List Trip). u ∷ r) (keep_all l (λ v q. n v (there q))))

  -- and any other stays
  pub slot-same-removed : in_slot s h k t ≡ false → slot s h (without t.id ts) k ≡ slot s h ts k
  slot-same-removed e =
      slot-without ∙ keep_all (slot s h ts k) (λ u q i.
      let w = of_slot s h ts k u q in
      let b : T (in_slot s h k t) = subst (λ (v : Trip). T (in_slot s h k v)) (same_id d u t w.0 m i) w.1 in
      subst T e b)
