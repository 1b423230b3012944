-- Which entries are within the bounds untested, and why: where a plan is quick, a trip that ends after the low cell and starts before the high one
-- is. So a level's matches are the same with the bounds not tested there.
use mathlib.Core.Path.{◌≡◌, refl, ap, ◌∙◌, fun_ext}
use mathlib.Core.Bool.{Bool, true, false, not, ◌&&◌}
use mathlib.Core.List.{List, ◌++◌, Memᴰ as Mem, append_assoc}
use Prim.Native.Nat.{ℕ, ◌+◌, ◌-◌, ◌*◌, ◌/◌, ◌%◌, ◌^◌, ◌≤◌, ◌<◌}
use native.Mathlib.Nat.{mul-mod_left}
use native.Mathlib.Decide.{dec_lt}
use native.Mathlib.Omega.{arith}
use lib.Dec.{eqb}
use lib.Pow.{pow_pos}
use borrow.Author.Tests.{eqb-true, eqb-false, not-true}
use Rattle.lists.specs.Lists.{keep, joined}
use Rattle.lists.proofs.Tests.{of_and, of_T, to_T}
use Rattle.lists.proofs.Members.{of_keep, of_sort, of_joined}
use Rattle.lists.proofs.Joined.{joined-add}
use Rattle.lists.proofs.Kept.{keep_append, keep_ext}
use Rattle.ruler.specs.Ruler.{Scale, cell_up, next_cell, begins}
use Rattle.ruler.proofs.CellLevels.{up_mono, up_from, up_to}
use Rattle.trip.specs.declared.Trip.{Trip}
use Rattle.layout.specs.declared.Half.{Half}
use Rattle.layout.specs.declared.Half.TheVariants.{Originals, Replicas}
use Rattle.layout.specs.Stored.{holds_trip, is_original, is_in, subdivision_of, is_of, belongs}
use Rattle.layout.specs.Words.{slot_trips}
use Rattle.layout.proofs.Partitions.{holds-within, of_within}
use Rattle.layout.proofs.Sides.{of_originals, of_is_of}
use Rattle.plan.specs.declared.range.Plan.{Plan}
use Rattle.plan.specs.Plan.{Ranged, original_slots, replica_slots, sure_first, sure_last}
use Rattle.plan.proofs.Looked.{slot_from, slots_from}
use Rattle.plan.proofs.Ranges.{few_slots}

-- ---- slots one after another

slot_shift : (s : Scale) (h : Half) (ts : List Trip) (L i c q : ℕ) → slot_from s h ts L i (2 * c + q) ≡ slot_from s h ts L (i + c) q
unfolding slot_from
slot_shift s h ts L i c q =
    let a : (2 * c + q) % 2 ≡ q % 2 = omega arith in
    let b : i + (2 * c + q) / 2 ≡ i + c + q / 2 = omega arith in
    rw (a, b)

pub slots_split : (s : Scale) (h : Half) (ts : List Trip) (L i c n : ℕ)
    → slots_from s h ts L i (2 * c + n) ≡ slots_from s h ts L i (2 * c) ++ slots_from s h ts L (i + c) n
unfolding slots_from
slots_split s h ts L i c n =
    joined-add (slot_from s h ts L i) (2 * c) n
    ∙ ap (λ (g : ℕ → List Trip). joined (slot_from s h ts L i) (2 * c) ++ joined g n) (fun_ext λ q. slot_shift s h ts L i c q)

-- a level's originals, from partition a to b, in three pieces: the first partition, those between, and the last one's first n slots
pub three-pieces : (s : Scale) (ts : List Trip) (t : Trip → Bool) (L a b n : ℕ) → a < b
    → (keep t (slots_from s Originals ts L a 2) ++ keep t (slots_from s Originals ts L (a + 1) (2 * (b - (a + 1))))) ++ keep t
    (slots_from s Originals ts L b n)
    ≡ keep t (slots_from s Originals ts L a (2 * (b - a) + n))
three-pieces s ts t L a b n h =
    let c = b - (a + 1) in
    let e : 2 * (b - a) + n ≡ 2 * 1 + (2 * c + n) = omega arith in
    let at_b : a + 1 + c ≡ b = omega arith in
    rw (e, slots_split s Originals ts L a 1 (2 * c + n), slots_split s Originals ts L (a + 1) c n, at_b, keep_append, keep_append, append_assoc)

-- a test that is told of trips whether they are sure to be within the bounds says the same of those that are, told or not
pub sure_alike : (sure : Bool) (t : Bool → Trip → Bool) (l : List Trip) → (sure ≡ true → (u : Trip) → Mem u l → t true u ≡ t false u)
    → keep (t sure) l ≡ keep (t false) l
sure_alike true t l h = keep_ext (t true) (t false) l (h refl)
sure_alike false t l h = refl

-- ---- an entry of a level, by its cells

module _ (s : Scale) (ts : List Trip) where
  abbrev A : Trip → ℕ
  A t = s.cell t.start

  abbrev B : Trip → ℕ
  B t = s.cell t.end

  -- a trip in partition i of level L covers its cells, and an original starts there
  record Entry (h : Half) (L i : ℕ) (t : Trip) : Type 0 where
    row : Mem t ts
    low : A t ≤ i * 2 ^ (s.m - L)
    high : (i + 1) * 2 ^ (s.m - L) ≤ B t + 1
    which : eqb (cell_up s.m L (A t)) i ≡ of_originals h

  of_slots : (h : Half) (L i n : ℕ) (t : Trip) → Mem t (slots_from s h ts L i n) → (q : ℕ) × (q < n) × Entry h L (i + q / 2) t
  unfolding slots_from slot_from slot_trips belongs holds_trip is_original
  of_slots h L i n t m =
      let w = of_joined (slot_from s h ts L i) n t m in
      let q = w.0 in
      let j = i + q / 2 in
      let v = of_keep _ ts t (of_sort _ _ t w.2) in
      let u = of_and (holds_trip s L j t) (is_of (subdivision_of h (eqb (q % 2) 1)) (is_original s L j t) (is_in s L j t)) v.1 in
      let z = of_is_of h (eqb (q % 2) 1) (is_original s L j t) (is_in s L j t) u.1 in
      let g = of_within s.m L j (A t) (B t) (holds-within s.m L j (A t) (B t) u.0) in
      (q, w.1, record { row = v.0; low = g.0; high = g.1; which = z.0 })

  of_partition : (h : Half) (L i n : ℕ) (t : Trip) → n ≤ 2 → Mem t (slots_from s h ts L i n) → Entry h L i t
  of_partition h L i n t two m =
      let w = of_slots h L i n t m in
      let q = w.1 in
      let e : i + w.0 / 2 ≡ i = omega arith in
      rw e at w.2

  starts_at : (L i : ℕ) (t : Trip) → Entry Originals L i t → cell_up s.m L (A t) ≡ i
  unfolding of_originals
  starts_at L i t e = eqb-true (cell_up s.m L (A t)) i e.which

  below : (L c d : ℕ) → cell_up s.m L c < cell_up s.m L d → c < d
  below L c d h = go (dec_lt c d)
    where
      go : Dec (c < d) → c < d
      go (yes l) = l
      go (no l) = let m = up_mono s.m L d c (omega arith) in omega arith

  -- an original that starts in a later partition ends after the low cell; one that starts in an earlier partition starts before the high
  ends-later : (L i c : ℕ) (t : Trip) → Entry Originals L i t → cell_up s.m L c < i → c < B t
  ends-later L i c t e h =
      let a = below L c (A t) (omega (arith, starts_at L i t e)) in
      omega (arith, e.low, e.high, pow_pos (s.m - L))

  starts-earlier : (L i c : ℕ) (t : Trip) → Entry Originals L i t → i < cell_up s.m L c → A t < c
  starts-earlier L i c t e h = below L (A t) c (omega (arith, starts_at L i t e))

  -- a cell that begins no partition is not the first cell of one
  inner : (L c i : ℕ) → eqb (c % 2 ^ (s.m - L)) 0 ≡ false → c ≡ i * 2 ^ (s.m - L) → ⊥
  inner L c i n e = eqb-false (c % 2 ^ (s.m - L)) 0 n (rw e (mul-mod_left i (2 ^ (s.m - L))))

  -- the low cell is not the last of its partition: what is held there ends after it
  ends-after : (h : Half) (L c : ℕ) (t : Trip) → eqb ((c + 1) % 2 ^ (s.m - L)) 0 ≡ false → Entry h L (cell_up s.m L c) t → c < B t
  ends-after h L c t n e =
      let i = cell_up s.m L c in
      let apart : c + 1 ≡ (i + 1) * 2 ^ (s.m - L) → ⊥ = inner L (c + 1) (i + 1) n in
      omega (arith, up_to s.m L c i (omega arith), e.high, apart)

  -- the high cell is not the first of its partition: what is held there starts before it
  starts-before : (h : Half) (L c : ℕ) (t : Trip) → eqb (c % 2 ^ (s.m - L)) 0 ≡ false → Entry h L (cell_up s.m L c) t → A t < c
  starts-before h L c t n e =
      let i = cell_up s.m L c in
      let apart : c ≡ i * 2 ^ (s.m - L) → ⊥ = inner L c i n in
      omega (arith, up_from s.m L c i (omega arith), e.low, apart)

  -- a replica of the low cell's partition starts before that cell
  replica_before : (L c : ℕ) (t : Trip) → Entry Replicas L (cell_up s.m L c) t → A t < c
  unfolding of_originals
  replica_before L c t e =
      let i = cell_up s.m L c in
      let other : cell_up s.m L (A t) ≡ i → ⊥ = eqb-false (cell_up s.m L (A t)) i e.which in
      let apart : A t ≡ c → ⊥ = λ q. other (ap (cell_up s.m L) q) in
      omega (arith, up_from s.m L c i (omega arith), e.low, apart)

-- ---- so nothing is lost where the bounds are not tested

module _ (s : Scale) (ts : List Trip) (t : Bool → Trip → Bool) (p : Plan) (r : Ranged s.m p)
    (sure : p.quick ≡ true → (u : Trip) → Mem u ts → p.low.1 < s.cell u.end → s.cell u.start < p.high.1 → t true u ≡ t false u) (L : ℕ) where
  abbrev a : ℕ
  a = cell_up s.m L p.low.1

  abbrev b : ℕ
  b = cell_up s.m L p.high.1

  -- what the two flags say
  of_first : sure_first p L ≡ true → (p.quick ≡ true) × (eqb ((p.low.1 + 1) % 2 ^ (s.m - L)) 0 ≡ false)
  unfolding sure_first begins
  of_first e =
      let at_once = begins (next_cell p.low) L in
      let w = of_and p.quick (not at_once) (to_T e) in
      (of_T p.quick w.0, rw r.low_level at (not-true at_once (of_T (not at_once) w.1)))

  of_last : sure_last p L ≡ true → (p.quick ≡ true) × (eqb (p.high.1 % 2 ^ (s.m - L)) 0 ≡ false)
  unfolding sure_last begins
  of_last e =
      let at_once = begins p.high L in
      let w = of_and p.quick (not at_once) (to_T e) in
      (of_T p.quick w.0, rw r.high_level at (not-true at_once (of_T (not at_once) w.1)))

  -- the first of several partitions, those between, and the last
  pub first_sure : a < b → keep (t (sure_first p L)) (slots_from s Originals ts L a 2) ≡ keep (t false) (slots_from s Originals ts L a 2)
  first_sure h = sure_alike (sure_first p L) t _ (λ f u m.
      let e = of_partition s ts Originals L a 2 u (omega arith) m in
      let w = of_first f in
      sure w.0 u e.row (ends-after s ts Originals L p.low.1 u w.1 e) (starts-earlier s ts L a p.high.1 u e h))

  pub between_sure : a < b
      → keep (t p.quick) (slots_from s Originals ts L (a + 1) (2 * (b - (a + 1))))
      ≡ keep (t false) (slots_from s Originals ts L (a + 1) (2 * (b - (a + 1))))
  between_sure h = sure_alike p.quick t _ (λ f u m.
      let w = of_slots s ts Originals L (a + 1) (2 * (b - (a + 1))) u m in
      let q = w.1 in
      sure f u w.2.row (ends-later s ts L _ p.low.1 u w.2 (omega arith)) (starts-earlier s ts L _ p.high.1 u w.2 (omega arith)))

  pub last_sure : a < b
      → keep (t (sure_last p L)) (slots_from s Originals ts L b (original_slots p.kind))
      ≡ keep (t false) (slots_from s Originals ts L b (original_slots p.kind))
  last_sure h = sure_alike (sure_last p L) t _ (λ f u m.
      let e = of_partition s ts Originals L b _ u (few_slots p.kind).0 m in
      let w = of_last f in
      sure w.0 u e.row (ends-later s ts L b p.low.1 u e h) (starts-before s ts Originals L p.high.1 u w.1 e))

  -- the one partition
  pub one_sure : a ≡ b
      → keep (t (sure_first p L && sure_last p L)) (slots_from s Originals ts L a (original_slots p.kind))
      ≡ keep (t false) (slots_from s Originals ts L a (original_slots p.kind))
  one_sure ab = sure_alike (sure_first p L && sure_last p L) t _ (λ f u m.
      let e = of_partition s ts Originals L a _ u (few_slots p.kind).0 m in
      let both = of_and (sure_first p L) (sure_last p L) (to_T f) in
      let w = of_first (of_T (sure_first p L) both.0) in
      let v = of_last (of_T (sure_last p L) both.1) in
      sure w.0 u e.row (ends-after s ts Originals L p.low.1 u w.1 e) (starts-before s ts Originals L p.high.1 u v.1 (rw ab at e)))

  -- the replicas of the first partition
  pub replicas_sure : keep (t (sure_first p L)) (slots_from s Replicas ts L a (replica_slots p.kind))
      ≡ keep (t false) (slots_from s Replicas ts L a (replica_slots p.kind))
  replicas_sure = sure_alike (sure_first p L) t _ (λ f u m.
      let e = of_partition s ts Replicas L a _ u (few_slots p.kind).1 m in
      let w = of_first f in
      sure w.0 u e.row (ends-after s ts Replicas L p.low.1 u w.1 e) (omega (arith, replica_before s ts L p.low.1 u e, r.ordered)))
