-- Row order in the table has no influence on the index: two tables with the same trips, no id twice in either, have one layout.
use mathlib.Core.Path.{◌≡◌, sym, ap, subst, ◌∙◌, fun_ext}
use mathlib.Core.Logic.{◌⊎◌, inl, inr}
use mathlib.Core.Bool.{Bool, ◌&&◌, ◌||◌}
use mathlib.Core.List.{List}
use Prim.Native.Nat.{ℕ, ◌*◌, ◌/◌, ◌<◌}
use native.Mathlib.Omega.{arith}
use native.Mathlib.Decide.{dec_lt}
use lib.Dec.{T, ltb, eqb, ltb→lt, lt→ltb, eqb→eq, eqb_refl}
use lib.ListN.{length}
use Rattle.lists.proofs.Tests.{of_and, to_and, of_or, or_left, or_right}
use Rattle.lists.proofs.Members.{In, Pairs, none, more, keep_in, pairs_keep, pairs_sort, length-sort}
use Rattle.lists.proofs.Sorting.{Apart, Sorted, StrictOrder, sort-same, sorted_sort}
use Rattle.ruler.specs.Ruler.{Scale}
use Rattle.trip.specs.declared.Trip.{Trip}
use Rattle.layout.specs.declared.Half.{Half}
use Rattle.layout.specs.declared.Half.TheVariants.{Originals, Replicas}
use Rattle.layout.specs.declared.Subdivision.{Subdivision}
use Rattle.layout.specs.declared.Subdivision.TheVariants.{RAft}
use Rattle.layout.specs.Stored.{belongs}
use Rattle.layout.specs.Words.{order, partitions, level_of, place_of, slot_trips, subdivision_at, slot, entries_before, entries, directory_half, arena, Lengths, layout}
use Rattle.layout.proofs.Keys.{key_of, order_keyed}

-- no id twice
abbrev pub OtherId : Trip → Trip → Type 0
OtherId t u = t.id ≡ u.id → ⊥

abbrev pub Distinct : List Trip → Type 0
Distinct = Pairs OtherId

-- ---- one order on a key and an id serves three of the four subdivisions
abbrev keyed : ℕ → ℕ → ℕ → ℕ → Bool
keyed a i b j = ltb a b || (eqb a b && ltb i j)

data Keyed (a i b j : ℕ) : Type 0 where
  less : a < b → Keyed a i b j
  tied : a ≡ b → i < j → Keyed a i b j

of_keyed : (a i b j : ℕ) → T (keyed a i b j) → Keyed a i b j
of_keyed a i b j t = elim (of_or (ltb a b) (eqb a b && ltb i j) t)
    [ inl p ↦ less (ltb→lt a b p) | inr q ↦ let w = of_and (eqb a b) (ltb i j) q in tied (eqb→eq a b w.0) (ltb→lt i j w.1) ]

to_keyed : (a i b j : ℕ) → Keyed a i b j → T (keyed a i b j)
to_keyed a i b j (less p) = or_left (ltb a b) (eqb a b && ltb i j) (lt→ltb a b p)
to_keyed a i b j (tied e q) = or_right (ltb a b) (eqb a b && ltb i j)
    (to_and (eqb a b) (ltb i j) (subst (λ (k : ℕ). T (eqb a k)) e (eqb_refl a)) (lt→ltb i j q))

keyed_asym : (a i b j : ℕ) → Keyed a i b j → Keyed b j a i → ⊥
keyed_asym a i b j (less p) (less q) = omega arith
keyed_asym a i b j (less p) (tied e q) = omega arith
keyed_asym a i b j (tied e p) (less q) = omega arith
keyed_asym a i b j (tied e p) (tied n q) = omega arith

keyed_trans : (a i b j c k : ℕ) → Keyed a i b j → Keyed b j c k → Keyed a i c k
keyed_trans a i b j c k (less p) (less q) = less (omega arith)
keyed_trans a i b j c k (less p) (tied e q) = less (omega arith)
keyed_trans a i b j c k (tied e p) (less q) = less (omega arith)
keyed_trans a i b j c k (tied e p) (tied n q) = tied (omega arith) (omega arith)

keyed_apart : (a i b j : ℕ) → (i ≡ j → ⊥) → Keyed a i b j ⊎ Keyed b j a i
keyed_apart a i b j n = go (dec_lt a b) (dec_lt b a) (dec_lt i j)
  where
    go : Dec (a < b) → Dec (b < a) → Dec (i < j) → Keyed a i b j ⊎ Keyed b j a i
    go (yes p) n e = inl (less p)
    go (no p) (yes q) e = inr (less q)
    go (no p) (no q) (yes h) = inl (tied (omega arith) h)
    go (no p) (no q) (no h) = inr (tied (omega arith) (omega (arith, n)))

-- ---- the order of each subdivision, read so: R_aft's has no key

-- x precedes y
Precedes : Subdivision → Trip → Trip → Type 0
Precedes d x y = Keyed (key_of d x) x.id (key_of d y) y.id

of_order : (d : Subdivision) (x y : Trip) → T (order d x y) → Precedes d x y
unfolding Precedes
of_order d x y t = of_keyed (key_of d x) x.id (key_of d y) y.id (rw (order_keyed d x y) at t)

to_order : (d : Subdivision) (x y : Trip) → Precedes d x y → T (order d x y)
unfolding Precedes
to_order d x y h = rw (order_keyed d x y) (to_keyed (key_of d x) x.id (key_of d y) y.id h)

pub order_asym : (d : Subdivision) (x y : Trip) → T (order d x y) → T (order d y x) → ⊥
unfolding Precedes
order_asym d x y p q = keyed_asym (key_of d x) x.id (key_of d y) y.id (of_order d x y p) (of_order d y x q)

pub order_trans : (d : Subdivision) (x y z : Trip) → T (order d x y) → T (order d y z) → T (order d x z)
unfolding Precedes
order_trans d x y z p q =
    to_order d x z (keyed_trans (key_of d x) x.id (key_of d y) y.id (key_of d z) z.id (of_order d x y p) (of_order d y z q))

pub order-apart : (d : Subdivision) (x y : Trip) → (x.id ≡ y.id → ⊥) → T (order d x y) ⊎ T (order d y x)
unfolding Precedes
order-apart d x y n =
    elim (keyed_apart (key_of d x) x.id (key_of d y) y.id n) [ inl h ↦ inl (to_order d x y h) | inr h ↦ inr (to_order d y x h) ]

-- ---- what is kept of a table with no id twice is ordered in one way
pub slot-order : (d : Subdivision) → StrictOrder (order d)
slot-order d = record { asym = order_asym d; trans = order_trans d }

pub distinct_apart : (d : Subdivision) {ts : List Trip} → Distinct ts → Apart (order d) ts
distinct_apart d none = none
distinct_apart d (more {x = t} h n) = more (λ u m. order-apart d t u (h u m)) (distinct_apart d n)

-- every slot of a table with no id twice is in order, and has no id twice
module _ (s : Scale) (h : Half) (ts : List Trip) (k : ℕ) (d : Distinct ts) where
  abbrev here : Trip → Bool
  here = belongs s (subdivision_at h k) (level_of s.m (k / 2)) (place_of s.m (k / 2))

  pub slot_sorted : Sorted (order (subdivision_at h k)) (slot s h ts k)
  unfolding slot slot_trips
  slot_sorted = sorted_sort (slot-order (subdivision_at h k)) (distinct_apart (subdivision_at h k) (pairs_keep here d))

  pub slot_distinct : Distinct (slot s h ts k)
  unfolding slot slot_trips
  slot_distinct = pairs_sort (λ x y n e. n (sym e)) (order (subdivision_at h k)) (pairs_keep here d)

module _ (s : Scale) (ts us : List Trip) (n : Distinct ts) (e : Distinct us) (f : In ts us) (g : In us ts) where
  pub slot_trips-same : (d : Subdivision) (L i : ℕ) → slot_trips s d L i ts ≡ slot_trips s d L i us
  unfolding slot_trips
  slot_trips-same d L i =
      let p = belongs s d L i in
      sort-same (slot-order d) (distinct_apart d (pairs_keep p n)) (distinct_apart d (pairs_keep p e)) (keep_in p f) (keep_in p g)

  slot_same : (h : Half) → slot s h ts ≡ slot s h us
  unfolding slot
  slot_same h = fun_ext λ k. slot_trips-same _ _ _

  pub before_same : (h : Half) (k : ℕ) → entries_before s h ts k ≡ entries_before s h us k
  unfolding entries_before
  before_same h k = rw (slot_same h)

  pub entries-same : (h : Half) → entries s h ts ≡ entries s h us
  unfolding entries
  entries-same h = before_same h (2 * partitions s.m)

  pub layout-same : (k : Lengths) → layout s ts k ≡ layout s us k
  unfolding layout directory_half arena entries entries_before
  layout-same k = rw (slot_same Originals, slot_same Replicas)

-- and as many rows
pub length-same : (ts us : List Trip) → Distinct ts → Distinct us → In ts us → In us ts → length ts ≡ length us
length-same ts us n e f g =
    let lt = order RAft in
    sym (length-sort lt ts) ∙ ap length (sort-same (slot-order RAft) (distinct_apart RAft n) (distinct_apart RAft e) f g) ∙ length-sort lt us
