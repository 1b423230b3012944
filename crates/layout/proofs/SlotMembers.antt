-- Slots: the members of a slot, and that an accepted trip lies in exactly one slot of the originals, so that the originals arena
-- gives the table again.
use mathlib.Core.Path.{◌≡◌, refl, sym, ap, ◌∙◌}
use mathlib.Core.Bool.{Bool, true, false, not, ◌&&◌}
use mathlib.Core.List.Memᴰ.{cast as Mem·cast}
use mathlib.Core.List.Memᴰ.{head as here}
use mathlib.Core.List.Memᴰ.{tail as there}
use mathlib.Core.List.{List, Memᴰ as Mem}
use Prim.Native.Nat.{ℕ, ◌+◌, ◌*◌, ◌/◌, ◌%◌, ◌^◌, ◌≤◌, ◌<◌}
use native.Mathlib.Omega.{arith}
use lib.Dec.{T, eqb}
use borrow.Author.Tests.{eqb-true, eqb-false}
use Rattle.lists.proofs.Members.{none, In, more, of_keep, to_keep, of_sort, to_sort, of_joined, to_joined, pairs_keep, pairs_sort, pairs_joined}
use Rattle.ruler.specs.Ruler.{Scale}
use Rattle.ruler.proofs.Fair.{Fair}
use Rattle.trip.specs.declared.Trip.{Trip}
use Rattle.layout.specs.declared.Half.{Half}
use Rattle.layout.specs.declared.Half.TheVariants.{Originals}
use Rattle.layout.specs.declared.Subdivision.{Subdivision}
use Rattle.layout.specs.Stored.{holds_trip, is_original, is_in, subdivision_of, is_of, belongs}
use Rattle.layout.specs.Words.{order, partitions, partition_number, level_of, place_of, slot_trips, slot, subdivision_at, entries_before, entries}
use Rattle.layout.specs.Refusals.{Fits}
use Rattle.layout.proofs.Partitions.{one_original}
use Rattle.layout.proofs.Numbers.{level_number, place_number, numbered, number_place, number_lt}
use Rattle.layout.proofs.RowOrder.{Distinct}

-- the trip has an entry in slot k of the half
abbrev pub in_slot : Scale → Half → (k : ℕ) → Trip → Bool
in_slot s h k t = belongs s (subdivision_at h k) (level_of s.m (k / 2)) (place_of s.m (k / 2)) t

-- the members of a slot
pub of_slot : (s : Scale) (h : Half) (ts : List Trip) (k : ℕ) (t : Trip) → Mem t (slot s h ts k)
    → Mem t ts × T (belongs s (subdivision_of h (eqb (k % 2) 1)) (level_of s.m (k / 2)) (place_of s.m (k / 2)) t)
unfolding slot slot_trips
of_slot s h ts k t m = of_keep _ ts t (of_sort _ _ t m)

pub to_slot : (s : Scale) (h : Half) (ts : List Trip) (k : ℕ) (t : Trip) → Mem t ts
    → T (belongs s (subdivision_of h (eqb (k % 2) 1)) (level_of s.m (k / 2)) (place_of s.m (k / 2)) t) → Mem t (slot s h ts k)
unfolding slot slot_trips
to_slot s h ts k t m b = to_sort _ _ t (to_keep _ ts t m b)

-- ---- the originals: each trip that the ruler takes lies in one slot

of_sub : (h o e b : Bool) → T (h && is_of (subdivision_of Originals b) o e) → T (h && o) × (e ≡ not b)
unfolding is_of subdivision_of
of_sub true true true false t = (tt, refl)
of_sub true true true true t = absurd t
of_sub true true false false t = absurd t
of_sub true true false true t = (tt, refl)
of_sub true false e false t = absurd t
of_sub true false e true t = absurd t
of_sub false o e b t = absurd t

to_sub : (h o e b : Bool) → T (h && o) → e ≡ not b → T (h && is_of (subdivision_of Originals b) o e)
unfolding is_of subdivision_of
to_sub true true e false t q = rw q tt
to_sub true true e true t q = rw q tt
to_sub true false e b t q = absurd t
to_sub false o e b t q = absurd t

not_inj : (a b : Bool) → not a ≡ not b → a ≡ b
not_inj true true e = refl
not_inj true false e = sym e
not_inj false true e = sym e
not_inj false false e = refl

same-parity : (j k : ℕ) → eqb (j % 2) 1 ≡ eqb (k % 2) 1 → j % 2 ≡ k % 2
same-parity j k e = go (eqb (k % 2) 1) refl
  where
    go : (b : Bool) → eqb (k % 2) 1 ≡ b → j % 2 ≡ k % 2
    go true q = eqb-true (j % 2) 1 (e ∙ q) ∙ sym (eqb-true (k % 2) 1 q)
    go false q =
        let x : j % 2 ≡ 1 → ⊥ = eqb-false (j % 2) 1 (e ∙ q) in
        let y : k % 2 ≡ 1 → ⊥ = eqb-false (k % 2) 1 q in
        omega arith

module _ (s : Scale) (fair : Fair s) (ts : List Trip) where
  pub slot-some : (t : Trip) → Fits s t → Mem t ts → (k : ℕ) × (k < 2 * partitions s.m) × Mem t (slot s Originals ts k)
  unfolding belongs
  slot-some t f m =
      let o = one_original s fair t f in
      go o.level o.place o.deep o.there o.has (is_in s o.level o.place t) refl
    where
      go : (L i : ℕ) → L ≤ s.m → i < 2 ^ L → T (holds_trip s L i t && is_original s L i t) → (e : Bool) → is_in s L i t ≡ e
          → (k : ℕ) × (k < 2 * partitions s.m) × Mem t (slot s Originals ts k)
      go L i h l w true q =
          let k = partition_number L i * 2 in
          let a : k / 2 ≡ partition_number L i = omega arith in
          let b : k % 2 ≡ 0 = omega arith in (
            k,
            omega (arith, number_lt s.m L i h l),
            to_slot s Originals ts k t m
                (rw (a, b, level_number s.m L i h l, place_number s.m L i h l)
                (to_sub (holds_trip s L i t) (is_original s L i t) (is_in s L i t) false w q)),
          )
      go L i h l w false q =
          let k = partition_number L i * 2 + 1 in
          let a : k / 2 ≡ partition_number L i = omega arith in
          let b : k % 2 ≡ 1 = omega arith in (
            k,
            omega (arith, number_lt s.m L i h l),
            to_slot s Originals ts k t m
                (rw (a, b, level_number s.m L i h l, place_number s.m L i h l)
                (to_sub (holds_trip s L i t) (is_original s L i t) (is_in s L i t) true w q)),
          )

  -- what a slot of the originals says of its trips
  of_orig : (t : Trip) (k : ℕ) → Mem t (slot s Originals ts k) → (L i : ℕ) → level_of s.m (k / 2) ≡ L → place_of s.m (k / 2) ≡ i
      → T (holds_trip s L i t && is_original s L i t) × (is_in s L i t ≡ not (eqb (k % 2) 1))
  unfolding belongs
  of_orig t k m L i el ei = of_sub (holds_trip s L i t) (is_original s L i t) (is_in s L i t) (eqb (k % 2) 1)
      (rw (el, ei) at (of_slot s Originals ts k t m).1)

  pub slot_once : (t : Trip) → Fits s t → (j k : ℕ) → j < 2 * partitions s.m → k < 2 * partitions s.m
      → Mem t (slot s Originals ts j) → Mem t (slot s Originals ts k) → j ≡ k
  slot_once t f j k hj hk mj mk =
      let o = one_original s fair t f in
      let nj = numbered s.m (j / 2) (omega arith) in
      let nk = numbered s.m (k / 2) (omega arith) in
      let a = o.only _ _ nj.deep (of_orig t j mj _ _ refl refl).0 in
      let b = o.only _ _ nk.deep (of_orig t k mk _ _ refl refl).0 in
      let p : j / 2 ≡ k / 2 = cc (number_place s.m (j / 2) (omega arith), number_place s.m (k / 2) (omega arith)) in
      let q = (of_orig t j mj o.level o.place a.0 a.1).1 in
      let v = (of_orig t k mk o.level o.place b.0 b.1).1 in
      let e = same-parity j k (not_inj (eqb (j % 2) 1) (eqb (k % 2) 1) (sym q ∙ v)) in
      omega arith

-- ---- the trips of the originals arena are the table's

-- in a table with no id twice, an id names one trip
pub same_id : {ts : List Trip} → Distinct ts → (x y : Trip) → Mem x ts → Mem y ts → x.id ≡ y.id → x ≡ y
same_id none x y m _ e = elim m [ ]
same_id (more h d) x y (here p) (here q) e = p ∙ sym q
same_id (more h d) x y (here p) (there n) e = absurd (h y n (ap (λ (u : Trip). u.id) (sym p) ∙ e))
same_id (more h d) x y (there m) (here q) e = absurd (h x m (sym (e ∙ ap (λ (u : Trip). u.id) q)))
same_id (more h d) x y (there m) (there n) e = same_id d x y m n e

module _ (s : Scale) (fair : Fair s) (ts : List Trip) (fits : (t : Trip) → Mem t ts → Fits s t) (d : Distinct ts) where
  pub of_originals_lem : In (entries s Originals ts) ts
  unfolding entries entries_before
  of_originals_lem t m = let w = of_joined (slot s Originals ts) (2 * partitions s.m) t m in (of_slot s Originals ts w.0 t w.2).0

  pub to_originals : In ts (entries s Originals ts)
  unfolding entries entries_before
  to_originals t m = let w = slot-some s fair ts t (fits t m) m in to_joined (slot s Originals ts) (2 * partitions s.m) w.0 t w.1 w.2

  slot_trips_distinct : (c : Subdivision) (L i : ℕ) → Distinct (slot_trips s c L i ts)
  unfolding slot_trips
  slot_trips_distinct c L i = pairs_sort (λ x y n e. n (sym e)) (order c) (pairs_keep (belongs s c L i) d)

  slot_distinct : (h : Half) (k : ℕ) → Distinct (slot s h ts k)
  unfolding slot
  slot_distinct h k = slot_trips_distinct (subdivision_of h (eqb (k % 2) 1)) (level_of s.m (k / 2)) (place_of s.m (k / 2))

  pub originals_distinct : Distinct (entries s Originals ts)
  unfolding entries entries_before
  originals_distinct =
      pairs_joined (slot s Originals ts) (2 * partitions s.m) (λ k l. slot_distinct Originals k)
      (λ j k jk kn x y mx my e.
      let x-in = (of_slot s Originals ts j x mx).0 in
      let y-in = (of_slot s Originals ts k y my).0 in
      let same = same_id d x y x-in y-in e in
      let jk' = slot_once s fair ts x (fits x x-in) j k (omega arith) kn mx (Mem·cast same my) in
      omega arith)
