-- The levels and their partitions, for any m: what document 01 says "is proved". No scale is named here but in the last part.
use mathlib.Core.Path.{◌≡◌, refl, sym}
use mathlib.Core.Bool.{Bool, true, false, not, ◌&&◌}
use Prim.Native.Nat.{ℕ, zero, suc, ◌+◌, ◌-◌, ◌*◌, ◌/◌, ◌^◌, ◌≤◌, ◌<◌}
use native.Mathlib.Nat.{pow-suc, mul-le-mul_right, sub_self}
use native.Mathlib.Decide.{le_ind, dec_lt}
use native.Mathlib.Omega.{arith}
use lib.Dec.{T, leb, eqb, leb→le, le→leb, eqb→eq, eqb_refl, T_not, not_T}
use Rattle.lists.proofs.Tests.{of_and, to_and}
use Rattle.ruler.specs.Ruler.{Scale, cell_up}
use Rattle.ruler.proofs.CellLevels.{up_half, up_bottom, up_lt}
use Rattle.ruler.proofs.Fair.{Fair}
use Rattle.trip.specs.declared.Trip.{Trip}
use Rattle.layout.specs.Stored.{first_cell, last_cell, within, holds, holds_trip, is_original, is_in}
use Rattle.layout.specs.Refusals.{Fits}

-- one level up: cells twice as wide
pub width_step : (m L : ℕ) → suc L ≤ m → 2 ^ (m - L) ≡ 2 ^ (m - suc L) * 2
width_step m L h = let e : m - L ≡ suc (m - suc L) = omega arith in rw e (pow-suc 2 (m - suc L))

-- the test `within`, as its two facts
pub of_within : (m L i a b : ℕ) → T (within m L i a b) → (a ≤ i * 2 ^ (m - L)) × ((i + 1) * 2 ^ (m - L) ≤ b + 1)
unfolding within first_cell last_cell
of_within m L i a b t =
    let p = of_and (leb a (first_cell m L i)) (leb (last_cell m L i) b) t in
    let q = leb→le (last_cell m L i) b p.1 in
    (leb→le a (first_cell m L i) p.0, omega arith)

pub to_within : (m L i a b : ℕ) → a ≤ i * 2 ^ (m - L) → (i + 1) * 2 ^ (m - L) ≤ b + 1 → T (within m L i a b)
unfolding within first_cell last_cell
to_within m L i a b p q = to_and (leb a (first_cell m L i)) (leb (last_cell m L i) b) (le→leb a (first_cell m L i) p)
    (le→leb (last_cell m L i) b (omega arith))

-- a partition whose parent lies in a..b lies in a..b
pub within_child : (m L i a b : ℕ) → suc L ≤ m → T (within m L (i / 2) a b) → T (within m (suc L) i a b)
within_child m L i a b h t =
    let p = rw (width_step m L h) at (of_within m L (i / 2) a b t) in
    let d = 2 ^ (m - suc L) in
    let lo : i / 2 * 2 ≤ i = omega arith in
    let hi : i + 1 ≤ i / 2 * 2 + 2 = omega arith in
    let x = mul-le-mul_right d lo in
    let y = mul-le-mul_right d hi in
    to_within m (suc L) i a b (omega arith) (omega arith)

-- ---- a trip lies in at most two partitions of a level

-- of three partitions i < j < k with i and k in a..b, the middle one's parent lies in a..b
between : (m L i j k a b : ℕ) → suc L ≤ m → i < j → j < k → T (within m (suc L) i a b) → T (within m (suc L) k a b) → T (within m L (j / 2) a b)
between m L i j k a b h ij jk s t =
    let p = of_within m (suc L) i a b s in
    let q = of_within m (suc L) k a b t in
    let d = 2 ^ (m - suc L) in
    let lo : i ≤ j / 2 * 2 = omega arith in
    let hi : j / 2 * 2 + 2 ≤ k + 1 = omega arith in
    let x = mul-le-mul_right d lo in
    let y = mul-le-mul_right d hi in
    to_within m L (j / 2) a b (rw (width_step m L h) (omega arith)) (rw (width_step m L h) (omega arith))

-- what is held lies in a..b
pub holds-within : (m L i a b : ℕ) → T (holds m L i a b) → T (within m L i a b)
unfolding holds
holds-within m zero i a b t = t
holds-within m (suc L) i a b t = (of_and (within m (suc L) i a b) _ t).0

pub holds_parent : (m L i a b : ℕ) → T (holds m (suc L) i a b) → T (within m L (i / 2) a b) → ⊥
unfolding holds
holds_parent m L i a b t w = T_not (within m L (i / 2) a b) (of_and (within m (suc L) i a b) (not (within m L (i / 2) a b)) t).1 w

pub to_holds : (m L i a b : ℕ) → T (within m (suc L) i a b) → (T (within m L (i / 2) a b) → ⊥) → T (holds m (suc L) i a b)
unfolding holds
to_holds m L i a b t f = to_and (within m (suc L) i a b) (not (within m L (i / 2) a b)) t (not_T (within m L (i / 2) a b) f)

-- no three partitions of a level hold one trip
pub at_most_two : (m L i j k a b : ℕ) → L ≤ m → k < 2 ^ L → i < j → j < k → T (holds m L i a b) → T (holds m L j a b) → T (holds m L k a b) → ⊥
at_most_two m zero i j k a b h n ij jk s t u = omega arith
at_most_two m (suc L) i j k a b h n ij jk s t u =
    holds_parent m L j a b t (between m L i j k a b h ij jk (holds-within m (suc L) i a b s) (holds-within m (suc L) k a b u))

-- ---- the partitions that hold a trip cover each cell of a..b once, and no other

module _ (m a b x : ℕ) where
  -- the partition of level L that has the cell x
  at_cell : ℕ → Bool
  at_cell L = within m L (cell_up m L x) a b

  pub HeldAt : ℕ → Type 0
  HeldAt L = T (holds m L (cell_up m L x) a b)

  down : (L : ℕ) → suc L ≤ m → T (at_cell L) → T (at_cell (suc L))
  unfolding at_cell
  down L h t = within_child m L (cell_up m (suc L) x) a b h (rw (up_half m L x h) at t)

  -- from level L on, every deeper one
  deeper : (L : ℕ) → T (at_cell L) → (K : ℕ) → L ≤ K → K ≤ m → T (at_cell K)
  deeper L t = le_ind (λ (K : ℕ). K ≤ m → T (at_cell K)) (λ h. t) (λ K lk ih h. down K h (ih (omega arith)))

  held_in : (L : ℕ) → HeldAt L → T (at_cell L)
  unfolding HeldAt at_cell
  held_in L t = holds-within m L (cell_up m L x) a b t

  held_top : (L : ℕ) → suc L ≤ m → HeldAt (suc L) → T (at_cell L) → ⊥
  unfolding HeldAt at_cell
  held_top L h t w = holds_parent m L (cell_up m (suc L) x) a b t (rw (up_half m L x h) at w)

  not_above : (L K : ℕ) → L < K → K ≤ m → HeldAt L → HeldAt K → ⊥
  not_above L zero l h s t = omega arith
  not_above L (suc K) l h s t = held_top K h t (deeper L (held_in L s) K (omega arith) (omega arith))

  pub held_once : (L K : ℕ) → L ≤ m → K ≤ m → HeldAt L → HeldAt K → L ≡ K
  held_once L K h g s t = go (dec_lt L K) (dec_lt K L)
    where
      go : Dec (L < K) → Dec (K < L) → L ≡ K
      go (yes p) d = absurd (not_above L K p g s t)
      go (no p) (yes q) = absurd (not_above K L q h t s)
      go (no p) (no q) = omega arith

  -- the highest of the partitions of x in a..b, from level L on
  find : (L : ℕ) → L ≤ m → T (at_cell L) → (K : ℕ) × (K ≤ m) × HeldAt K
  unfolding HeldAt holds at_cell
  find zero h t = (zero, h, t)
  find (suc L) h t = go (at_cell L) refl (find L (omega arith))
    where
      go : (c : Bool) → at_cell L ≡ c → (T (at_cell L) → (K : ℕ) × (K ≤ m) × HeldAt K) → (K : ℕ) × (K ≤ m) × HeldAt K
      go true e ih = ih (rw e tt)
      go false e ih = (suc L, h, to_holds m L (cell_up m (suc L) x) a b t (λ w. rw (← up_half m L x h, e) at w))

  pub held-some : a ≤ x → x ≤ b → (K : ℕ) × (K ≤ m) × HeldAt K
  unfolding at_cell
  held-some p q = find m (omega arith) (rw up_bottom (to_within m m x a b (rw sub_self (omega arith)) (rw sub_self (omega arith))))

-- ---- so each trip has exactly one original entry, and exactly one "in" entry

-- one partition alone, of the levels 0 .. m, has the property
pub record Once (m : ℕ) (p : ℕ → ℕ → Bool) : Type 0 where
  pub level : ℕ
  pub place : ℕ
  pub deep : level ≤ m
  pub there : place < 2 ^ level
  pub has : T (p level place)
  pub only : (L i : ℕ) → L ≤ m → T (p L i) → (L ≡ level) × (i ≡ place)

-- the cell x of a..b is in one held partition
pub once : (m a b x : ℕ) → x < 2 ^ m → a ≤ x → x ≤ b → Once m (λ L i. holds m L i a b && eqb (cell_up m L x) i)
unfolding HeldAt
once m a b x bound p q =
    let f = held-some m a b x p q in
    let K = f.0 in
    let take : (L i : ℕ) → T (holds m L i a b && eqb (cell_up m L x) i) → HeldAt m a b x L × (cell_up m L x ≡ i) =
    λ L i t.
    let w = of_and (holds m L i a b) (eqb (cell_up m L x) i) t in
    let e = eqb→eq (cell_up m L x) i w.1 in
    (rw e w.0, e)
    in
    record {
      level = K;
      place = cell_up m K x;
      deep = f.1;
      there = up_lt m K x f.1 bound;
      has = to_and (holds m K (cell_up m K x) a b) (eqb (cell_up m K x) (cell_up m K x)) f.2 (eqb_refl (cell_up m K x));
      only = λ L i h t.
          let e = held_once m a b x L K h f.1 (take L i t).0 f.2 in
          (e, rw (← e) (sym (take L i t).1));
    }

module _ (s : Scale) (fair : Fair s) (t : Trip) (fits : Fits s t) where
  cells-ordered : s.cell t.start ≤ s.cell t.end
  cells-ordered = fair.never_falls t.start t.end fits.times.ordered

  pub one_original : Once s.m (λ L i. holds_trip s L i t && is_original s L i t)
  unfolding holds_trip is_original
  one_original =
      let h = cells-ordered in
      once s.m (s.cell t.start) (s.cell t.end) (s.cell t.start) (fair.one_of t.start fits.times.starts) (omega arith) h

  pub one_in : Once s.m (λ L i. holds_trip s L i t && is_in s L i t)
  unfolding holds_trip is_in
  one_in =
      let h = cells-ordered in
      once s.m (s.cell t.start) (s.cell t.end) (s.cell t.end) (fair.one_of t.end fits.times.ends) h (omega arith)
