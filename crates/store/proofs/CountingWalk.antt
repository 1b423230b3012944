-- The walk up the levels that counts the partitions of a trip: at level L the partitions that lie in a..b are from .. to - 1, and those
-- that hold the trip are `from` where it is odd and to - 1 where `to` is odd.
use mathlib.Core.Path.{◌≡◌, refl, ap}
use mathlib.Core.Bool.{Bool, true, false, not, ◌&&◌}
use Prim.Native.Nat.{ℕ, zero, suc, ◌+◌, ◌-◌, ◌*◌, ◌/◌, ◌%◌, ◌^◌, ◌≤◌, ◌<◌}
use native.Mathlib.Nat.{two-pow-succ, sub_self, pow-suc}
use native.Mathlib.Omega.{arith}
use native.Mathlib.Decide.{dec_lt}
use lib.Dec.{T}
use borrow.Author.Tests.{le-leb, lt-leb}
use Rattle.lists.specs.Lists.{one_more, count}
use Rattle.lists.proofs.Sums.{pair_of, count_pairs, one_more_lem}
use Rattle.lists.proofs.Tests.{of_T}
use Rattle.ruler.specs.Ruler.{Scale, pieces}
use Rattle.trip.specs.declared.Trip.{Trip}
use Rattle.layout.specs.Stored.{within, holds}
use Rattle.layout.specs.Words.{partitions_holding}
use Rattle.layout.proofs.Partitions.{of_within, to_within, within_child}
use Rattle.layout.proofs.ByLevel.{held_above, none_above, one_level_more, held_in_all}

-- how many of 0 .. n - 1 lie in from .. to - 1
module _ (g : ℕ → Bool) (from to : ℕ) (into : (i : ℕ) → T (g i) → (from ≤ i) × (i < to)) (outof : (i : ℕ) → from ≤ i → i < to → T (g i)) where
  under : (n : ℕ) → n < to → (from ≤ n → ⊥) → n < from
  under n h out = omega (arith, out)

  span : (n : ℕ) → ((n ≤ to → count g n ≡ n - from) × (to ≤ n → count g n ≡ to - from))
  unfolding count
  span zero = ((λ h. omega arith), λ h. omega arith)
  span (suc n) = go (g n) refl (span n)
    where
      go : (b : Bool) → g n ≡ b → ((n ≤ to → count g n ≡ n - from) × (to ≤ n → count g n ≡ to - from))
          → ((suc n ≤ to → one_more b (count g n) ≡ suc n - from) × (to ≤ suc n → one_more b (count g n) ≡ to - from))
      go true e ih =
          let w = into n (rw e tt) in
          let x = ih.0 (omega arith) in
          ((λ h. omega arith), λ h. omega arith)
      go false e ih = (
        (λ h. let q = under n h (λ p. rw e at (outof n p h)) in let x = ih.0 (omega arith) in omega arith),
        λ h. late (dec_lt n to) h,
      )
        where
          late : Dec (n < to) → to ≤ suc n → count g n ≡ to - from
          late (yes p) h = let q = under n p (λ r. rw e at (outof n r p)) in let x = ih.0 (omega arith) in omega arith
          late (no p) h = ih.1 (omega arith)

  span-count : (n : ℕ) → to ≤ n → count g n ≡ to - from
  span-count n h = (span n).1 h

module _ (m a b : ℕ) where
  -- a partition lies in a..b if both its halves do
  halves : (L i : ℕ) → suc L ≤ m → T (within m (suc L) (2 * i) a b) → T (within m (suc L) (2 * i + 1) a b) → T (within m L i a b)
  halves L i h s t =
      let p = of_within m (suc L) (2 * i) a b s in
      let q = of_within m (suc L) (2 * i + 1) a b t in
      let e : m - L ≡ suc (m - suc L) = omega arith in
      let f : 2 ^ (m - L) ≡ 2 ^ (m - suc L) * 2 = rw e (pow-suc 2 (m - suc L)) in
      to_within m L i a b (rw f (omega (arith, p.0))) (rw f (omega (arith, q.1)))

  -- partition j's two children that hold the trip, and the two that j takes from them where it lies in a..b
  two_children : (L j : ℕ) → suc L ≤ m
      → pair_of (λ i. holds m (suc L) i a b) j + one_more (within m L j a b) (one_more (within m L j a b) 0) ≡ pair_of (λ i. within m (suc L) i a b) j
  unfolding holds pair_of
  two_children L j h =
      let x : suc (2 * j) / 2 ≡ j = omega arith in
      let y : 2 * j / 2 ≡ j = omega arith in
      rw (x, y) (go (within m L j a b) refl)
    where
      four : (c d : Bool) → one_more (d && not false) (one_more (c && not false) 0) + 0 ≡ one_more d (one_more c 0)
      four true true = refl
      four true false = refl
      four false true = refl
      four false false = refl

      go : (p : Bool) → within m L j a b ≡ p
          → one_more (within m (suc L) (suc (2 * j)) a b && not p) (one_more (within m (suc L) (2 * j) a b && not p) 0) + one_more p (one_more p 0)
          ≡ one_more (within m (suc L) (suc (2 * j)) a b) (one_more (within m (suc L) (2 * j) a b) 0)
      go true e =
          let x : suc (2 * j) / 2 ≡ j = omega arith in
          let y : 2 * j / 2 ≡ j = omega arith in
          let s : T (within m (suc L) (suc (2 * j)) a b) = within_child m L (suc (2 * j)) a b h (rw (x, e) tt) in
          let t : T (within m (suc L) (2 * j) a b) = within_child m L (2 * j) a b h (rw (y, e) tt) in
          rw (of_T (within m (suc L) (suc (2 * j)) a b) s, of_T (within m (suc L) (2 * j) a b) t) refl
      go false e = four (within m (suc L) (2 * j) a b) (within m (suc L) (suc (2 * j)) a b)

  -- of two levels: those of the lower that hold the trip, with twice those of the upper that lie in a..b, are those of the lower that do
  held-count : (L : ℕ) → suc L ≤ m → (n : ℕ)
      → count (λ i. holds m (suc L) i a b) (2 * n) + 2 * count (λ i. within m L i a b) n ≡ count (λ i. within m (suc L) i a b) (2 * n)
  unfolding count
  held-count L h zero = refl
  held-count L h (suc n) =
      let f : ℕ → Bool = λ i. holds m (suc L) i a b in
      let g : ℕ → Bool = λ i. within m L i a b in
      let k : ℕ → Bool = λ i. within m (suc L) i a b in
      let twice = one_more_lem (g n) (one_more (g n) 0) in
      omega (arith, held-count L h n, two_children L n h, count_pairs f n, count_pairs k n, one_more_lem (g n) (count g n), twice)

  -- at level L: from .. to - 1 lie in a..b, and `held` counts the partitions of the levels below L that hold the trip
  pub record Walk (L from to held all : ℕ) : Type 0 where
    pub deep : L ≤ m
    pub high : to ≤ 2 ^ L
    pub into : (i : ℕ) → T (within m L i a b) → (from ≤ i) × (i < to)
    pub outof : (i : ℕ) → from ≤ i → i < to → T (within m L i a b)
    pub sum : held + held_above m a b (suc L) ≡ all

  pub walk_start : b < 2 ^ m → Walk m a (b + 1) 0 (held_above m a b (suc m))
  walk_start h = record {
    deep = omega arith;
    high = omega arith;
    into = λ i t. let w = rw (sub_self m) at (of_within m m i a b t) in (omega (arith, w.0), omega (arith, w.1));
    outof = λ i p q. to_within m m i a b (rw (sub_self m) (omega arith)) (rw (sub_self m) (omega arith));
    sum = omega arith;
  }

  -- one level up
  pub walk_turn : (L from to held all got : ℕ) → 0 < L → Walk L from to held all → got + 2 * (to / 2 - (from + 1) / 2) ≡ to - from
      → Walk (L - 1) ((from + 1) / 2) (to / 2) (held + got) all
  walk_turn zero from to held all got p w e = absurd (omega arith)
  walk_turn (suc L) from to held all got p w e =
      let d : suc L - 1 ≡ L = omega arith in
      let h : suc L ≤ m = w.deep in
      let t = two-pow-succ L in
      let into : (i : ℕ) → T (within m L i a b) → ((from + 1) / 2 ≤ i) × (i < to / 2) = λ i q.
      let x : 2 * i / 2 ≡ i = omega arith in
      let y : (2 * i + 1) / 2 ≡ i = omega arith in
      let u = w.into (2 * i) (within_child m L (2 * i) a b h (rw x q)) in
      let v = w.into (2 * i + 1) (within_child m L (2 * i + 1) a b h (rw y q)) in
      (omega arith, omega arith)
      in
      let outof : (i : ℕ) → (from + 1) / 2 ≤ i → i < to / 2 → T (within m L i a b) = λ i r s.
      halves L i h (w.outof (2 * i) (omega arith) (omega arith)) (w.outof (2 * i + 1) (omega arith) (omega arith))
      in
      let high : to / 2 ≤ 2 ^ L = omega (arith, w.high) in
      let above = span-count (λ i. within m L i a b) ((from + 1) / 2) (to / 2) into outof (2 ^ L) high in
      let here = span-count (λ i. within m (suc L) i a b) from to w.into w.outof (2 * 2 ^ L) (omega (arith, w.high)) in
      let both = held-count L h (2 ^ L) in
      let two : 2 ^ suc L ≡ 2 * 2 ^ L = omega arith in
      let level = rw two at (one_level_more m a b (suc L) h) in
      rw d (record { deep = omega arith; high = high; into = into; outof = outof; sum = omega (arith, w.sum) })

  pub walk_end : (L from to held all got : ℕ) → L ≡ 0 → Walk L from to held all → got ≡ to - from → held + got ≡ all
  unfolding holds
  walk_end L from to held all got z w e =
      let v : Walk 0 from to held all = rw z at w in
      let c = span-count (λ i. within m 0 i a b) from to v.into v.outof 1 v.high in
      omega (arith, v.sum, one_level_more m a b 0 (omega arith), none_above m a b)

  -- a level with none has none above it
  pub walk_done : (L from to held all : ℕ) → Walk L from to held all → to ≤ from → held ≡ all
  walk_done zero from to held all w h = omega (arith, walk_end zero from to held all 0 refl w (omega arith))
  walk_done (suc L) from to held all w h =
      let d : suc L - 1 ≡ L = omega arith in
      let up = rw d at (walk_turn (suc L) from to held all 0 (omega arith) w (omega arith)) in
      omega (arith, walk_done L ((from + 1) / 2) (to / 2) (held + 0) all up (omega arith))

  -- together they are the pieces of what is left
  pub walk-pieces : (L from to held all : ℕ) → Walk L from to held all → held + pieces (suc L) from to ≡ all
  unfolding pieces
  walk-pieces zero from to held all w = go (dec_lt from to)
    where
      go : Dec (from < to) → held + pieces 1 from to ≡ all
      go (yes l) = rw (lt-leb to from l) (omega (arith, walk_end 0 from to held all (from % 2 + to % 2) refl w (omega (arith, w.high))))
      go (no l) = rw (le-leb to from (omega arith)) (omega (arith, walk_done 0 from to held all w (omega arith)))
  walk-pieces (suc L) from to held all w = go (dec_lt from to) (walk-pieces L ((from + 1) / 2) (to / 2) (held + (from % 2 + to % 2)) all)
    where
      go : Dec (from < to) → (Walk L ((from + 1) / 2) (to / 2) (held + (from % 2 + to % 2)) all
          → held + (from % 2 + to % 2) + pieces (suc L) ((from + 1) / 2) (to / 2) ≡ all) → held + pieces (suc (suc L)) from to ≡ all
      go (yes l) ih =
          let d : suc L - 1 ≡ L = omega arith in
          let up = rw d at (walk_turn (suc L) from to held all (from % 2 + to % 2) (omega arith) w (omega arith)) in
          rw (lt-leb to from l) (omega (arith, ih up))
      go (no l) ih = rw (le-leb to from (omega arith)) (omega (arith, walk_done (suc L) from to held all w (omega arith)))

pub pieces-held : (s : Scale) (t : Trip) → s.cell t.end < 2 ^ s.m → pieces (s.m + 1) (s.cell t.start) (s.cell t.end + 1) ≡ partitions_holding s t
pieces-held s t h =
    let m = s.m in
    let a = s.cell t.start in
    let b = s.cell t.end in
    let all = walk-pieces m a b m a (b + 1) 0 (held_above m a b (suc m)) (walk_start m a b h) in
    let next : m + 1 ≡ suc m = omega arith in
    omega (arith, ap (λ (n : ℕ). pieces n a (b + 1)) next, all, held_in_all s t)
