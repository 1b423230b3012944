-- The slot of a trip's original entry: the level that is computed is the definition's, the trip belongs there, and in no other slot of originals.
use mathlib.Core.Path.{◌≡◌, refl, sym, ap, subst, ◌∙◌}
use mathlib.Core.Logic.{◌⊎◌, inl, inr}
use mathlib.Core.Bool.{Bool, true, false, cond, not, ◌&&◌}
use mathlib.Core.List.Memᴰ.{head as here}
use mathlib.Core.List.Memᴰ.{not-nil}
use mathlib.Core.List.Memᴰ.{tail as there}
use mathlib.Core.List.{List, [], ◌∷◌, Memᴰ as Mem}
use Prim.Native.Nat.{ℕ, zero, suc, ◌+◌, ◌-◌, ◌*◌, ◌/◌, ◌%◌, ◌^◌, ◌≤◌, ◌<◌}
use native.Mathlib.Nat.{sub_self}
use native.Mathlib.Decide.{dec_lt}
use native.Mathlib.Omega.{arith}
use lib.Count.{count_trailing_zeros, trailing_le}
use lib.Dec.{T, eqb, eqb_refl, not_T}
use lib.Pow.{pow_mono}
use Rattle.lists.specs.Lists.{cons_if}
use Rattle.lists.proofs.Tests.{to_and, of_T, of_not_T}
use Rattle.lists.proofs.Members.{to_keep}
use Rattle.lists.proofs.Kept.{keep_all}
use Rattle.ruler.specs.declared.Ruler.{Ruler}
use Rattle.ruler.specs.Ruler.{Scale, cell_up}
use Rattle.ruler.specs.Made.{scale}
use Rattle.ruler.proofs.Fair.{Fair}
use Rattle.ruler.proofs.CellLevels.{up_half, up_bottom, up_lt}
use Rattle.ruler.proofs.Zeros.{zeros_begin, zeros_stop}
use Rattle.trip.specs.declared.Trip.{Trip}
use Rattle.layout.specs.declared.Half.TheVariants.{Originals}
use Rattle.layout.specs.Stored.{within, holds, holds_trip, is_original, is_in, is_of, subdivision_of, belongs}
use Rattle.layout.specs.Words.{partitions, partition_number, slot_number, slot}
use Rattle.layout.proofs.Partitions.{of_within, to_within}
use Rattle.layout.proofs.RulerCells.{fair_ruler}
use Rattle.layout.proofs.Numbers.{level_number, place_number, number_lt}
use Rattle.layout.proofs.SlotMembers.{in_slot, to_slot, slot_once}
use Rattle.layout.specs.Refusals.{Fits}
use Rattle.store.specs.TripWalk.{slots_of_trip, Below, none, also}
use Rattle.store.specs.Homes.{home_level, home_at, home}
use Rattle.store.proofs.TripWalk.{walk_once, walk-below}

-- ---- the level of the original entry, so many levels up

module _ (m a b : ℕ) where
  -- at level m - i the partition of a lies in a..b where a begins one there and a..b has as many cells as it
  up_within : (i : ℕ) → i ≤ m → a / 2 ^ i * 2 ^ i ≡ a → a + 2 ^ i ≤ b + 1 → T (within m (m - i) (cell_up m (m - i) a) a b)
  unfolding cell_up
  up_within i h e l =
      let d : m - (m - i) ≡ i = omega arith in
      let q = 2 ^ i in
      to_within m (m - i) (a / 2 ^ (m - (m - i))) a b (rw d (omega arith)) (rw d (omega arith))

  of_up : (i : ℕ) → i ≤ m → T (within m (m - i) (cell_up m (m - i) a) a b) → (a ≤ a / 2 ^ i * 2 ^ i) × (a / 2 ^ i * 2 ^ i + 2 ^ i ≤ b + 1)
  unfolding cell_up
  of_up i h t =
      let d : m - (m - i) ≡ i = omega arith in
      let w = rw d at (of_within m (m - i) (a / 2 ^ (m - (m - i))) a b t) in
      (w.0, omega (arith, w.1))

  -- climbing so many levels, as long as the partition of a lies in a..b
  up_step : (i : ℕ) → i < m → T (within m (m - suc i) (cell_up m (m - suc i) a) a b) → home_level m a b (m - suc i) ≡ home_level m a b (m - i)
  unfolding home_level
  up_step i h t =
      let e : m - i ≡ suc (m - suc i) = omega arith in
      let w : within m (m - suc i) (cell_up m (m - suc i) a) a b ≡ true = of_T _ t in
      rw (e, w)

  climbed : (k : ℕ) → k ≤ m → ((i : ℕ) → i ≤ k → T (within m (m - i) (cell_up m (m - i) a) a b)) → home_level m a b (m - k) ≡ home_level m a b m
  climbed zero h t = let e : m - 0 ≡ m = omega arith in rw e
  climbed (suc k) h t = up_step k (omega arith) (t (suc k) (omega arith)) ∙ climbed k (omega arith) (λ i l. t i (omega arith))

  -- and where it does not one level further up, or there is none, that is the level
  up_stop : (k : ℕ) → k ≤ m → (k < m → T (within m (m - suc k) (cell_up m (m - suc k) a) a b) → ⊥) → home_level m a b (m - k) ≡ m - k
  unfolding home_level
  up_stop k h t = go (dec_lt k m)
    where
      go : Dec (k < m) → home_level m a b (m - k) ≡ m - k
      go (yes l) =
          let e : m - k ≡ suc (m - suc k) = omega arith in
          let w : within m (m - suc k) (cell_up m (m - suc k) a) a b ≡ false = of_not_T (within m (m - suc k) (cell_up m (m - suc k) a) a b) (not_T (within m (m - suc k) (cell_up m (m - suc k) a) a b) (t l)) in
          rw (e, w)
      go (no l) = let e : m - k ≡ 0 = omega arith in rw e

  -- the fewer of the levels at which a begins a partition and of those at which one has no more cells than a..b
  module _ (k : ℕ) (ordered : a ≤ b) (begun : k ≤ count_trailing_zeros m a) (spanned : 2 ^ k ≤ b - a + 1)
      (fewer : (count_trailing_zeros m a ≡ k) ⊎ (b - a + 1 < 2 ^ (k + 1))) where
    too_far : k < m → T (within m (m - suc k) (cell_up m (m - suc k) a) a b) → ⊥
    too_far l t =
        let w = of_up (suc k) l t in
        let e : k + 1 ≡ suc k = omega arith in
        elim fewer [
          | inl z ↦ omega (arith, w.0, rw z at (zeros_stop m a (rw z l)))
          | inr n ↦ omega (arith, w.0, w.1, rw e at n)
        ]

    pub home_level_is : home_level m a b m ≡ m - k
    home_level_is =
        let deep : k ≤ m = omega (arith, trailing_le m a) in
        sym (climbed k deep (λ i l. up_within i (omega arith) (zeros_begin m a i (omega arith)) (omega (arith, pow_mono l)))) ∙ up_stop k deep too_far

-- where the partition of a lies in a..b at level K, the one at the home level holds a..b
module _ (m a b : ℕ) where
  abbrev Held : (L : ℕ) → Type 0
  Held L = T (holds m L (cell_up m L a) a b)

  home-held : (K : ℕ) → K ≤ m → T (within m K (cell_up m K a) a b) → (home_level m a b K ≤ K) × Held (home_level m a b K)
  unfolding home_level holds
  home-held zero h t = (omega arith, t)
  home-held (suc K) h t = go (within m K (cell_up m K a) a b) refl (home-held K (omega arith))
    where
      go : (c : Bool) → within m K (cell_up m K a) a b ≡ c
          → (T (within m K (cell_up m K a) a b) → (home_level m a b K ≤ K) × Held (home_level m a b K))
          → (home_level m a b (suc K) ≤ suc K) × Held (home_level m a b (suc K))
      go true e ih = let w = ih (rw e tt) in rw e (omega (arith, w.0), w.1)
      go false e ih =
          let i = cell_up m (suc K) a in
          rw e (omega arith, to_and (within m (suc K) i a b) (not (within m K (i / 2) a b)) t (rw (← up_half m K a h, e) tt))

-- ---- the slot of the original entry

-- an original that is "in" exactly where its slot is not "aft" is one of that slot's subdivision
to_original : (h o e : Bool) → T (h && o) → T (h && is_of (subdivision_of Originals (not e)) o e)
unfolding is_of subdivision_of
to_original true true true t = tt
to_original true true false t = tt
to_original true false e t = absurd t
to_original false o e t = absurd t

-- slot 2p + 0 or 2p + 1 is one of partition p
slot_partition : (p : ℕ) (aft : Bool) → ((2 * p + cond aft 1 0) / 2 ≡ p) × (eqb ((2 * p + cond aft 1 0) % 2) 1 ≡ aft)
slot_partition p true = let e : (2 * p + 1) % 2 ≡ 1 = omega arith in (omega arith, rw e)
slot_partition p false = let e : (2 * p + 0) % 2 ≡ 0 = omega arith in (omega arith, rw e)

slot_lt : (p n : ℕ) (aft : Bool) → p < n → 2 * p + cond aft 1 0 < 2 * n
slot_lt p n true h = omega arith
slot_lt p n false h = omega arith

-- what a walk visits is below its bound, and is there only where its test passed
below_mem : {n c : ℕ} {l : List ℕ} → Below n l → Mem c l → c < n
below_mem none m = absurd (not-nil m)
below_mem (also h b) (here e) = rw e h
below_mem (also h b) (there m) = below_mem b m

some_if : {c : ℕ} (b : Bool) → Mem c (cons_if b c []) → T b
some_if true m = tt
some_if false m = absurd (not-nil m)

module _ (s : Scale) (fair : Fair s) (t : Trip) (f : Fits s t) where
  at_home : (home_level s.m (s.cell t.start) (s.cell t.end) s.m ≤ s.m)
      × Held s.m (s.cell t.start) (s.cell t.end) (home_level s.m (s.cell t.start) (s.cell t.end) s.m)
  at_home =
      let m = s.m in
      let a = s.cell t.start in
      let b = s.cell t.end in
      let ordered = fair.never_falls t.start t.end f.times.ordered in
      home-held m a b m (omega arith) (rw up_bottom (to_within m m a a b (rw sub_self (omega arith)) (rw sub_self (omega arith))))

  -- the home level is one of the ruler's, and the trip's first cell has a place there
  pub home-deep : home_level s.m (s.cell t.start) (s.cell t.end) s.m ≤ s.m
  home-deep = at_home.0

  pub home_place : (L : ℕ) → L ≤ s.m → cell_up s.m L (s.cell t.start) < 2 ^ L
  home_place L h = up_lt s.m L (s.cell t.start) h (fair.one_of t.start f.times.starts)

  -- it is one of the slots
  pub home_lt : home s t < 2 * partitions s.m
  unfolding home home_at slot_number
  home_lt =
      let L = home_level s.m (s.cell t.start) (s.cell t.end) s.m in
      let i = cell_up s.m L (s.cell t.start) in
      slot_lt (partition_number L i) (partitions s.m) (not (is_in s L i t)) (number_lt s.m L i home-deep (home_place L home-deep))

  -- the trip belongs in it
  pub home-belongs : T (in_slot s Originals (home s t) t)
  unfolding home home_at slot_number belongs holds_trip is_original
  home-belongs =
      let L = home_level s.m (s.cell t.start) (s.cell t.end) s.m in
      let i = cell_up s.m L (s.cell t.start) in
      let there = home_place L home-deep in
      let k = slot_partition (partition_number L i) (not (is_in s L i t)) in
      let held = to_and (holds_trip s L i t) (eqb i i) at_home.1 (eqb_refl i) in
      rw (k.0, k.1, level_number s.m L i home-deep there, place_number s.m L i home-deep there)
      (to_original (holds_trip s L i t) (is_original s L i t) (is_in s L i t) held)

  -- so it has the trip in every table that has it
  pub home-slot : (ts : List Trip) → Mem t ts → Mem t (slot s Originals ts (home s t))
  home-slot ts m = to_slot s Originals ts (home s t) t m home-belongs

  -- and it alone is visited among the slots of originals
  inside : s.cell t.end < 2 ^ s.m
  inside = fair.one_of t.end f.times.ends

  visited_home : (c : ℕ) → Mem c (slots_of_trip s Originals t) → c ≡ home s t
  visited_home c m =
      let l = below_mem (walk-below s Originals t inside) m in
      let there = to_keep (λ k. eqb k c) (slots_of_trip s Originals t) c m (eqb_refl c) in
      let belongs = some_if (in_slot s Originals c t) (subst (Mem c) (walk_once s Originals t c inside l) there) in
      slot_once s fair (t ∷ []) t f c (home s t) l home_lt (to_slot s Originals (t ∷ []) c t (here refl) belongs) (home-slot (t ∷ []) (here refl))

  pub one_home : slots_of_trip s Originals t ≡ home s t ∷ []
  one_home =
      let h = home s t in
      sym (keep_all (λ k. eqb k h) (slots_of_trip s Originals t) (λ c m. rw (visited_home c m) (eqb_refl h)))
      ∙ walk_once s Originals t h inside home_lt
      ∙ ap (λ (b : Bool). cons_if b h []) (of_T (in_slot s Originals h t) home-belongs)

-- ---- the same of a ruler, for the code

module _ (r : Ruler) (t : Trip) (f : Fits (scale r) t) where
  pub level_deep : home_level (scale r).m ((scale r).cell t.start) ((scale r).cell t.end) (scale r).m ≤ (scale r).m
  level_deep = home-deep (scale r) (fair_ruler r) t f

  pub place_there : (L : ℕ) → L ≤ (scale r).m → cell_up (scale r).m L ((scale r).cell t.start) < 2 ^ L
  place_there = home_place (scale r) (fair_ruler r) t f

  pub home_in : home (scale r) t < 2 * partitions (scale r).m
  home_in = home_lt (scale r) (fair_ruler r) t f
