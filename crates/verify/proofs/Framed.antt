-- The frame of a slot: a trip that fits the ruler stands in a slot exactly if it starts and ends in the slot's frame.
use mathlib.Core.Logic.{◌≢◌}
use mathlib.Core.Path.{◌≡◌, refl, ap, fun_ext}
use mathlib.Core.Bool.{Bool, true, false, cond, not, ◌&&◌, ◌||◌}
use mathlib.Core.List.{List}
use Prim.Native.Nat.{ℕ, zero, suc, ◌+◌, ◌-◌, ◌*◌, ◌/◌, ◌%◌, ◌^◌, ◌≤◌, ◌<◌}
use native.Mathlib.Nat.{two-pow-succ, mul-le-mul_right}
use native.Mathlib.Decide.{dec_lt}
use native.Mathlib.Omega.{arith}
use lib.Dec.{T, leb, eqb, leb→le, le→leb}
use lib.Pow.{pow_pos}
use borrow.Author.Tests.{leb-false, lt-leb, eqb-true, eqb-false, eq-eqb, ne_eqb}
use Rattle.lists.proofs.Tests.{of_and, to_and, of_nor, of_not_T, to_T}
use Rattle.ruler.specs.Ruler.{Scale, cell_of, cell_up}
use Rattle.ruler.proofs.CellLevels.{all_cells, up_from, up_to, up_at}
use Rattle.ruler.proofs.Fair.{Fair}
use Rattle.trip.specs.declared.Trip.{Trip}
use Rattle.layout.specs.declared.Half.{Half}
use Rattle.layout.specs.declared.Half.TheVariants.{Originals, Replicas}
use Rattle.layout.specs.Stored.{first_cell, last_cell, holds, holds_trip, is_original, is_in, is_of, subdivision_of, belongs}
use Rattle.layout.specs.Words.{order, partition_number, subdivision_at}
use Rattle.layout.specs.Refusals.{fits}
use Rattle.layout.proofs.Partitions.{width_step, of_within, to_within, holds-within, holds_parent, to_holds}
use Rattle.layout.proofs.Numbers.{level_number, place_number}
use Rattle.layout.proofs.Chains.{of_fits}
use Rattle.layout.proofs.Sides.{of_originals, of_is_of, to_is_of}
use Rattle.verify.specs.Passing.{in_row}
use Rattle.verify.specs.Local.{stands_at, slot_ok}
use Rattle.verify.specs.Frames.{cells, has_cell, AtLevel, starts_of, ends_of, frame_of, FrameAt, stands_in}
use Rattle.verify.proofs.Passing.{bool_ext}

-- ---- a partition and its parent

-- a partition's parent is one of the level above
pub parent_lt : (L i : ℕ) → 0 < L → i < 2 ^ L → i / 2 < 2 ^ (L - 1)
parent_lt zero i h l = absurd (omega arith)
parent_lt (suc L) i h l = let e : suc L - 1 ≡ L = omega arith in rw e (omega (arith, two-pow-succ L))

-- the cells of a partition are cells of level m
pub cells_in : (m L i : ℕ) → L ≤ m → i < 2 ^ L → (i + 1) * 2 ^ (m - L) ≤ 2 ^ m
cells_in m L i h l = let next : i + 1 ≤ 2 ^ L = omega arith in omega (arith, mul-le-mul_right (2 ^ (m - L)) next, all_cells m L h)

-- the parent begins with a partition whose number is even, and ends with one whose number is odd
parent_first : (m L i : ℕ) → 0 < L → L ≤ m → i % 2 ≡ 1 → first_cell m (L - 1) (i / 2) + 2 ^ (m - L) ≡ i * 2 ^ (m - L)
unfolding first_cell
parent_first m zero i h l e = absurd (omega arith)
parent_first m (suc L) i h l e =
    let d = 2 ^ (m - suc L) in
    let up : suc L - 1 ≡ L = omega arith in
    let twice : i / 2 * 2 + 1 ≡ i = omega arith in
    rw (up, width_step m L l) (omega (arith, ap (λ (k : ℕ). k * d) twice))

parent_last : (m L i : ℕ) → 0 < L → L ≤ m → i % 2 ≡ 0 → last_cell m (L - 1) (i / 2) + 1 ≡ (i + 1) * 2 ^ (m - L) + 2 ^ (m - L)
unfolding last_cell
parent_last m zero i h l e = absurd (omega arith)
parent_last m (suc L) i h l e =
    let d = 2 ^ (m - suc L) in
    let up : suc L - 1 ≡ L = omega arith in
    let twice : i / 2 * 2 ≡ i = omega arith in
    rw (up, width_step m L l) (omega (arith, ap (λ (k : ℕ). k * d) twice, pow_pos (m - suc L)))

-- ---- cells from one on up to another

of_cells : (m x y c : ℕ) → T (has_cell (cells m x y) (cell_of m c)) → (x ≤ c) × (c < y)
unfolding has_cell
of_cells m x y c t =
    let w = of_and (leb x c) (not (leb y c)) t in
    (leb→le x c w.0, leb-false y c (of_not_T (leb y c) w.1))

to_cells : (m x y c : ℕ) → x ≤ c → c < y → T (has_cell (cells m x y) (cell_of m c))
unfolding has_cell
to_cells m x y c h l = to_and (leb x c) (not (leb y c)) (le→leb x c h) (rw (lt-leb y c l) tt)

-- ---- the partition holds a..b: what that says of a alone, and of b alone

record Held (m L i a b : ℕ) : Type 0 where
  start : a ≤ i * 2 ^ (m - L)
  end : (i + 1) * 2 ^ (m - L) ≤ b + 1
  left : i % 2 ≡ 1 → i * 2 ^ (m - L) < a + 2 ^ (m - L)
  right : i % 2 ≡ 0 → 0 < L → b + 1 < (i + 1) * 2 ^ (m - L) + 2 ^ (m - L)

of_holds : (m L i a b : ℕ) → L ≤ m → i < 2 ^ L → T (holds m L i a b) → Held m L i a b
of_holds m zero i a b h l t =
    let w = of_within m zero i a b (holds-within m zero i a b t) in
    record { start = w.0; end = w.1; left = λ e. absurd (omega arith); right = λ e p. absurd (omega arith) }
of_holds m (suc L) i a b h l t =
    let d = 2 ^ (m - suc L) in
    let w = of_within m (suc L) i a b (holds-within m (suc L) i a b t) in
    let up : a ≤ i / 2 * (d * 2) → (i / 2 + 1) * (d * 2) ≤ b + 1 → ⊥ =
    λ p q. holds_parent m L i a b t (to_within m L (i / 2) a b (rw (width_step m L h) p) (rw (width_step m L h) q)) in
    record {
      start = w.0;
      end = w.1;
      left = λ e.
          let twice : i / 2 * 2 + 1 ≡ i = omega arith in
          let x = ap (λ (k : ℕ). k * d) twice in
          let no_more : a + d ≤ i * d → ⊥ = λ g. up (omega arith) (omega (arith, w.1)) in
          omega arith;
      right = λ e p.
          let twice : i / 2 * 2 ≡ i = omega arith in
          let x = ap (λ (k : ℕ). k * d) twice in
          let no_more : (i + 1) * d + d ≤ b + 1 → ⊥ = λ g. up (omega (arith, w.0)) (omega arith) in
          omega arith;
    }

to_held : (m L i a b : ℕ) → L ≤ m → Held m L i a b → T (holds m L i a b)
unfolding holds
to_held m zero i a b h w = to_within m zero i a b w.start w.end
to_held m (suc L) i a b h w =
    to_holds m L i a b (to_within m (suc L) i a b w.start w.end)
    (λ t. go (dec_lt (i % 2) 1) (rw (width_step m L h) at (of_within m L (i / 2) a b t)))
  where
    go : Dec (i % 2 < 1) → (a ≤ i / 2 * (2 ^ (m - suc L) * 2)) × ((i / 2 + 1) * (2 ^ (m - suc L) * 2) ≤ b + 1) → ⊥
    go (yes p) v =
        let twice : i / 2 * 2 ≡ i = omega arith in
        omega (arith, v.1, w.right (omega arith) (omega arith), ap (λ (k : ℕ). k * 2 ^ (m - suc L)) twice)
    go (no p) v =
        let twice : i / 2 * 2 + 1 ≡ i = omega arith in
        omega (arith, v.0, w.left (omega arith), ap (λ (k : ℕ). k * 2 ^ (m - suc L)) twice)

pub odd_below : (L i : ℕ) → i < 2 ^ L → i % 2 ≡ 1 → 0 < L
odd_below zero i l e = absurd (omega arith)
odd_below (suc L) i l e = omega arith

-- the parent of an odd partition
pub parent_in : (L i : ℕ) → i < 2 ^ L → i % 2 ≢ 0 → i / 2 < 2 ^ (L - 1)
parent_in L i l odd = parent_lt L i (odd_below L i l (omega arith)) l

-- ---- where the trips of a slot start

module _ (m L i a : ℕ) (deep : L ≤ m) (there : i < 2 ^ L) where
  abbrev Starts : Half → Type 0
  Starts h = (a ≤ i * 2 ^ (m - L)) × (i % 2 ≡ 1 → i * 2 ^ (m - L) < a + 2 ^ (m - L)) × (eqb (cell_up m L a) i ≡ of_originals h)

  to_starts : (h : Half) → Starts h → T (has_cell (starts_of m h L i) (cell_of m a))
  unfolding starts_of of_originals first_cell
  to_starts Originals w =
      let cell = eqb-true (cell_up m L a) i w.2 in
      let from = up_from m L a i (omega arith) in
      to_cells m (i * 2 ^ (m - L)) (i * 2 ^ (m - L) + 1) a from (omega (arith, w.0))
  to_starts Replicas w =
      let other : cell_up m L a ≡ i → ⊥ = eqb-false (cell_up m L a) i w.2 in
      let same : i * 2 ^ (m - L) ≤ a → ⊥ = λ g. other (up_at m L a i g (omega (arith, w.0, pow_pos (m - L)))) in
      go (eqb (i % 2) 0) refl (omega arith)
    where
      go : (v : Bool) → eqb (i % 2) 0 ≡ v → a < i * 2 ^ (m - L)
          → T (has_cell (cells m (cond (eqb (i % 2) 0) 0 (first_cell m (L - 1) (i / 2) + 1)) (i * 2 ^ (m - L))) (cell_of m a))
      go true q l = rw q (to_cells m 0 (i * 2 ^ (m - L)) a (omega arith) l)
      go false q l =
          let ne : i % 2 ≡ 0 → ⊥ = eqb-false (i % 2) 0 q in
          let odd : i % 2 ≡ 1 = omega arith in
          let up = parent_first m L i (odd_below L i there odd) deep odd in
          rw q (to_cells m (first_cell m (L - 1) (i / 2) + 1) (i * 2 ^ (m - L)) a (omega (arith, w.1 odd)) l)

  of_starts : (h : Half) → T (has_cell (starts_of m h L i) (cell_of m a)) → Starts h
  unfolding starts_of of_originals first_cell
  of_starts Originals t =
      let w = of_cells m (i * 2 ^ (m - L)) (i * 2 ^ (m - L) + 1) a t in
      let some = pow_pos (m - L) in
      (omega arith, λ e. omega arith, eq-eqb (cell_up m L a) i (up_at m L a i w.0 (omega arith)))
  of_starts Replicas t = go (eqb (i % 2) 0) refl t
    where
      other : a < i * 2 ^ (m - L) → eqb (cell_up m L a) i ≡ false
      other l = ne_eqb (cell_up m L a) i (λ e. omega (arith, up_from m L a i (omega arith)))

      go : (v : Bool) → eqb (i % 2) 0 ≡ v
          → T (has_cell (cells m (cond (eqb (i % 2) 0) 0 (first_cell m (L - 1) (i / 2) + 1)) (i * 2 ^ (m - L))) (cell_of m a)) → Starts Replicas
      go true q u =
          let w = of_cells m 0 (i * 2 ^ (m - L)) a (rw q at u) in
          let even = eqb-true (i % 2) 0 q in
          (omega arith, λ e. absurd (omega arith), other w.1)
      go false q u =
          let w = of_cells m (first_cell m (L - 1) (i / 2) + 1) (i * 2 ^ (m - L)) a (rw q at u) in
          (omega arith, λ e. omega (arith, w.0, parent_first m L i (odd_below L i there e) deep e), other w.1)

-- ---- where they end

-- the test is that the parent ends with the partition, or there is none
last_of_two : (L i : ℕ) → eqb L 0 || eqb (i % 2) 1 ≡ true → i % 2 ≡ 0 → 0 < L → ⊥
last_of_two L i q e l = let no-level = ne_eqb L 0 (λ z. omega arith) in let even = ne_eqb (i % 2) 1 (λ z. omega arith) in (rw (no-level, even) at (to_T q))

pub first_of_two_lem : (L i : ℕ) → eqb L 0 || eqb (i % 2) 1 ≡ false → (0 < L) × (i % 2 ≡ 0)
first_of_two_lem L i q =
    let w = of_nor (eqb L 0) (eqb (i % 2) 1) (rw q tt) in
    let level : L ≡ 0 → ⊥ = eqb-false L 0 (of_not_T (eqb L 0) w.0) in
    let even : i % 2 ≡ 1 → ⊥ = eqb-false (i % 2) 1 (of_not_T (eqb (i % 2) 1) w.1) in
    (omega arith, omega arith)

module _ (m L i b : ℕ) (deep : L ≤ m) where
  abbrev Ends : Bool → Type 0
  Ends aft =
      ((i + 1) * 2 ^ (m - L) ≤ b + 1) × (i % 2 ≡ 0 → 0 < L → b + 1 < (i + 1) * 2 ^ (m - L) + 2 ^ (m - L))
      × (eqb (cell_up m L b) i ≡ not aft)

  abbrev After : Type 0
  After = T (has_cell (cells m (last_cell m L i + 1) (cond (eqb L 0 || eqb (i % 2) 1) (2 ^ m) (last_cell m (L - 1) (i / 2)))) (cell_of m b))

  to_ends : (aft : Bool) → b < 2 ^ m → Ends aft → T (has_cell (ends_of m aft L i) (cell_of m b))
  unfolding ends_of last_cell
  to_ends false l w =
      let cell = eqb-true (cell_up m L b) i w.2 in
      let to = up_to m L b i (omega arith) in
      to_cells m (last_cell m L i) (last_cell m L i + 1) b (omega (arith, w.0)) (omega (arith, w.0))
  to_ends true l w =
      let other : cell_up m L b ≡ i → ⊥ = eqb-false (cell_up m L b) i w.2 in
      let some = pow_pos (m - L) in
      let same : b < (i + 1) * 2 ^ (m - L) → ⊥ = λ g. other (up_at m L b i (omega (arith, w.0)) g) in
      go (eqb L 0 || eqb (i % 2) 1) refl (omega arith)
    where
      go : (v : Bool) → eqb L 0 || eqb (i % 2) 1 ≡ v → last_cell m L i + 1 ≤ b → After
      go true q g = rw q (to_cells m (last_cell m L i + 1) (2 ^ m) b g l)
      go false q g =
          let f = first_of_two_lem L i q in
          let up = parent_last m L i f.0 deep f.1 in
          rw q (to_cells m (last_cell m L i + 1) (last_cell m (L - 1) (i / 2)) b g (omega (arith, w.1 f.1 f.0)))

  of_ends : (aft : Bool) → T (has_cell (ends_of m aft L i) (cell_of m b)) → Ends aft
  unfolding ends_of last_cell
  of_ends false t =
      let w = of_cells m (last_cell m L i) (last_cell m L i + 1) b t in
      let some = pow_pos (m - L) in
      (omega arith, λ e l. omega arith, eq-eqb (cell_up m L b) i (up_at m L b i (omega arith) (omega arith)))
  of_ends true t = go (eqb L 0 || eqb (i % 2) 1) refl t
    where
      other : (i + 1) * 2 ^ (m - L) ≤ b → eqb (cell_up m L b) i ≡ false
      other l = ne_eqb (cell_up m L b) i (λ e. omega (arith, up_to m L b i (omega arith)))

      go : (v : Bool) → eqb L 0 || eqb (i % 2) 1 ≡ v → After → Ends true
      go true q u =
          let w = of_cells m (last_cell m L i + 1) (2 ^ m) b (rw q at u) in
          (omega arith, λ e l. absurd (last_of_two L i q e l), other (omega arith))
      go false q u =
          let w = of_cells m (last_cell m L i + 1) (last_cell m (L - 1) (i / 2)) b (rw q at u) in
          (omega arith, λ e l. omega (arith, w.1, parent_last m L i l deep e), other (omega arith))

-- ---- both together

pub frame_at : (m : ℕ) (h : Half) (aft : Bool) (L i : ℕ) → FrameAt m (frame_of m h aft L i)
unfolding starts_of ends_of
frame_at m h aft L i = record { starts_at = starts h; ends_at = ends aft }
  where
    starts : (h : Half) → AtLevel m (starts_of m h L i)
    starts Originals = record { from_at = refl; until_at = refl }
    starts Replicas = record { from_at = refl; until_at = refl }

    ends : (aft : Bool) → AtLevel m (ends_of m aft L i)
    ends false = record { from_at = refl; until_at = refl }
    ends true = record { from_at = refl; until_at = refl }

module _ (m L i a b : ℕ) (deep : L ≤ m) (there : i < 2 ^ L) (h : Half) (aft : Bool) where
  abbrev starting : Bool
  starting = has_cell (starts_of m h L i) (cell_of m a)

  abbrev ending : Bool
  ending = has_cell (ends_of m aft L i) (cell_of m b)

  abbrev kind : Bool
  kind = is_of (subdivision_of h aft) (eqb (cell_up m L a) i) (eqb (cell_up m L b) i)

  of_frame : T (starting && ending) → T (holds m L i a b && kind)
  of_frame u =
      let w = of_and starting ending u in
      let x = of_starts m L i a deep there h w.0 in
      let y = of_ends m L i b deep aft w.1 in
      to_and (holds m L i a b) kind (to_held m L i a b deep (record { start = x.0; end = y.0; left = x.1; right = y.1 }))
      (to_is_of h aft (eqb (cell_up m L a) i) (eqb (cell_up m L b) i) x.2 y.2)

  to_frame : b < 2 ^ m → T (holds m L i a b && kind) → T (starting && ending)
  to_frame l u =
      let w = of_and (holds m L i a b) kind u in
      let x = of_holds m L i a b deep there w.0 in
      let y = of_is_of h aft (eqb (cell_up m L a) i) (eqb (cell_up m L b) i) w.1 in
      to_and starting ending (to_starts m L i a deep there h (x.start, x.left, y.0)) (to_ends m L i b deep aft l (x.end, x.right, y.1))

-- the test of the code is that of `stands_at`
pub in_frame : (s : Scale) → Fair s → (h : Half) (aft : Bool) (L i : ℕ) → L ≤ s.m → i < 2 ^ L → (t : Trip)
    → stands_in s (frame_of s.m h aft L i) t ≡ stands_at s (subdivision_of h aft) L i t
unfolding stands_in stands_at belongs holds_trip is_original is_in
in_frame s fair h aft L i deep there t = go (fits s t) refl
  where
    go : (v : Bool) → fits s t ≡ v → stands_in s (frame_of s.m h aft L i) t ≡ stands_at s (subdivision_of h aft) L i t
    go true e =
        let f = of_fits s t (to_T e) in
        let a = s.cell t.start in
        let b = s.cell t.end in
        ap (λ (x : Bool). fits s t && x)
        (bool_ext _ _ (of_frame s.m L i a b deep there h aft) (to_frame s.m L i a b deep there h aft (fair.one_of t.end f.times.ends)))
    go false e = rw e

-- so the trips of slot k, which is one of partition i of level L, stand in a row in its frame exactly if the slot is as it should be
pub slot_framed : (s : Scale) → Fair s → (h : Half) (k L i : ℕ) → L ≤ s.m → i < 2 ^ L → k / 2 ≡ partition_number L i → (l : List Trip)
    → in_row (stands_in s (frame_of s.m h (eqb (k % 2) 1) L i)) (order (subdivision_at h k)) l ≡ slot_ok s h k l
unfolding slot_ok
slot_framed s fair h k L i deep there e l =
    rw (e, level_number s.m L i deep there, place_number s.m L i deep there)
    (ap (λ (p : Trip → Bool). in_row p (order (subdivision_at h k)) l) (fun_ext (in_frame s fair h (eqb (k % 2) 1) L i deep there)))
