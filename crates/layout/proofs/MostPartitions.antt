-- How many partitions hold one trip: at most two of a level (`level_two`), in all at most 1 where m < 2 and else 2(m − 1) (`most_partitions_lem`), and
-- some trips lie in as many (`most_reached`). Nothing is asked of the scale: it is so of any two cells a and b.
use mathlib.Core.Path.{◌≡◌, refl, ap}
use mathlib.Core.Bool.{Bool, true, false}
use Prim.Native.Nat.{ℕ, zero, suc, ◌+◌, ◌-◌, ◌*◌, ◌/◌, ◌^◌, ◌≤◌, ◌<◌}
use native.Mathlib.Nat.{two-pow-succ, mul-le-mul_right, lt_of_not-le}
use native.Mathlib.Decide.{dec_lt}
use native.Mathlib.Omega.{arith}
use lib.Dec.{T}
use lib.Pow.{pow_pos}
use borrow.Author.Tests.{lt-ltb, le-ltb}
use Rattle.lists.specs.Lists.{count}
use Rattle.lists.proofs.Counts.{count_pair, count_single, count_two, count_le, count_none}
use Rattle.ruler.specs.Ruler.{Scale, deepest}
use Rattle.ruler.proofs.CellLevels.{all_cells}
use Rattle.trip.specs.declared.Trip.{Trip}
use Rattle.layout.specs.Stored.{within, holds, most_partitions}
use Rattle.layout.specs.Words.{partitions_holding}
use Rattle.layout.proofs.Partitions.{width_step, at_most_two, of_within, to_within, holds-within, holds_parent, to_holds}
use Rattle.layout.proofs.ByLevel.{held_above, none_above, one_level_more, held_in_all}

-- "It follows, and is proved, that a trip lies in at most two partitions of a level."
pub level_two : (m L a b : ℕ) → L ≤ m → count (λ i. holds m L i a b) (2 ^ L) ≤ 2
level_two m L a b h = count_two (λ i. holds m L i a b) (2 ^ L) (λ i j k ij jk kn. at_most_two m L i j k a b h kn ij jk)

-- ---- in all at most so many

-- what the bound is at least, for any m; and it never falls
at_least : (m : ℕ) → (1 ≤ most_partitions m) × (m ≤ most_partitions m) × (2 * (m - 1) ≤ most_partitions m)
at_least m = go (dec_lt m 2)
  where
    go : Dec (m < 2) → (1 ≤ most_partitions m) × (m ≤ most_partitions m) × (2 * (m - 1) ≤ most_partitions m)
    go (yes h) = rw (lt-ltb m 2 h) (omega arith, omega arith, omega arith)
    go (no h) = rw (le-ltb m 2 (omega arith)) (omega arith, omega arith, omega arith)

rising : (m n : ℕ) → m ≤ n → most_partitions m ≤ most_partitions n
rising m n h = go (dec_lt m 2) (dec_lt n 2)
  where
    go : Dec (m < 2) → Dec (n < 2) → most_partitions m ≤ most_partitions n
    go (yes l) d = rw (lt-ltb m 2 l) (at_least n).0
    go (no l) (yes k) = absurd (omega arith)
    go (no l) (no k) = rw (le-ltb m 2 (omega arith), le-ltb n 2 (omega arith)) (omega arith)

module _ (m a b : ℕ) where
  -- a trip over all cells is held by level 0 alone
  all_within : T (within m 0 0 a b) → (L i : ℕ) → L ≤ m → i < 2 ^ L → T (within m L i a b)
  all_within t L i h l =
      let w = of_within m 0 0 a b t in
      let e : m - 0 ≡ m = omega arith in
      let q : i + 1 ≤ 2 ^ L = omega arith in
      to_within m L i a b (omega arith) (omega (arith, mul-le-mul_right (2 ^ (m - L)) q, all_cells m L h, ap (λ (k : ℕ). 2 ^ k) e))

  below_none : T (within m 0 0 a b) → (L : ℕ) → suc L ≤ m → count (λ i. holds m (suc L) i a b) (2 ^ suc L) ≡ 0
  below_none t L h = count_none (λ i. holds m (suc L) i a b) (2 ^ suc L)
      (λ i l s. holds_parent m L i a b s (all_within t L (i / 2) (omega arith) (omega (arith, two-pow-succ L))))

  covered : T (within m 0 0 a b) → (L : ℕ) → L ≤ m → held_above m a b (suc L) ≤ 1
  covered t zero h = omega (arith, one_level_more m a b 0 h, none_above m a b, count_le (λ i. holds m 0 i a b) 1)
  covered t (suc L) h = omega (arith, one_level_more m a b (suc L) h, below_none t L h, covered t L (omega arith))

  -- any other is not held by level 0
  top_none : (T (within m 0 0 a b) → ⊥) → held_above m a b 1 ≡ 0
  unfolding holds
  top_none f =
      omega (
        arith,
        one_level_more m a b 0 (omega arith),
        none_above m a b,
        count_none (λ i. holds m 0 i a b) 1 (λ i l s. let e : i ≡ 0 = omega arith in f (rw e at s)),
      )

  -- where two partitions i and j of a level hold a trip, it leaves out the first cell and the last
  module _ (L i j : ℕ) (h : suc L ≤ m) (ij : i < j) (jn : j < 2 ^ suc L) (s : T (holds m (suc L) i a b)) (t : T (holds m (suc L) j a b)) where
    leaves_first : 0 < a
    leaves_first = lt_of_not-le (λ z. holds_parent m L i a b s (
        let q = of_within m (suc L) j a b (holds-within m (suc L) j a b t) in
        let hi : i / 2 * 2 + 2 ≤ j + 1 = omega arith in
        to_within m L (i / 2) a b (omega arith) (rw (width_step m L h) (omega (arith, mul-le-mul_right (2 ^ (m - suc L)) hi)))))

    leaves_last : b + 1 < 2 ^ m
    leaves_last = lt_of_not-le (λ z. holds_parent m L j a b t (
        let p = of_within m (suc L) i a b (holds-within m (suc L) i a b s) in
        let lo : i ≤ j / 2 * 2 = omega arith in
        let hi : j / 2 + 1 ≤ 2 ^ L = omega (arith, two-pow-succ L) in
        to_within m L (j / 2) a b (rw (width_step m L h) (omega (arith, mul-le-mul_right (2 ^ (m - suc L)) lo)))
        (omega (arith, mul-le-mul_right (2 ^ (m - L)) hi, all_cells m L (omega arith)))))

  -- so a trip that has either of them is held by at most one partition of a level, and by none of level 0 if it hasn't all cells
  level_one : ((0 < a) × (b + 1 < 2 ^ m) → ⊥) → (L : ℕ) → suc L ≤ m → count (λ i. holds m (suc L) i a b) (2 ^ suc L) ≤ 1
  level_one f L h = count_single (λ i. holds m (suc L) i a b) (2 ^ suc L)
      (λ i j ij jn s t. f (leaves_first L i j h ij jn s t, leaves_last L i j h ij jn s t))

  at_an_end : (T (within m 0 0 a b) → ⊥) → ((0 < a) × (b + 1 < 2 ^ m) → ⊥) → (L : ℕ) → L ≤ m → held_above m a b (suc L) ≤ L
  at_an_end f g zero h = omega (arith, top_none f)
  at_an_end f g (suc L) h = omega (arith, one_level_more m a b (suc L) h, level_one g L h, at_an_end f g L (omega arith))

  -- and one that has neither is held by none of level 0 and none of level 1
  module _ (p : 0 < a) (q : b + 1 < 2 ^ m) where
    not_all : T (within m 0 0 a b) → ⊥
    not_all t = let w = of_within m 0 0 a b t in omega arith

    no_half : (i : ℕ) → 1 ≤ m → i < 2 → T (holds m 1 i a b) → ⊥
    no_half i h l t = go i l (of_within m 1 i a b (holds-within m 1 i a b t))
      where
        go : (i : ℕ) → i < 2 → (a ≤ i * 2 ^ (m - 1)) × ((i + 1) * 2 ^ (m - 1) ≤ b + 1) → ⊥
        go zero l w = omega arith
        go (suc zero) l w = omega (arith, all_cells m 1 h)
        go (suc (suc i)) l w = omega arith

    between_ends : (L : ℕ) → L ≤ m → held_above m a b (suc L) ≤ 2 * (L - 1)
    between_ends zero h = omega (arith, top_none not_all)
    between_ends (suc zero) h =
        omega (arith, one_level_more m a b 1 h, top_none not_all, count_none (λ i. holds m 1 i a b) 2 (λ i l t. no_half i h l t))
    between_ends (suc (suc L)) h =
        omega (arith, one_level_more m a b (suc (suc L)) h, level_two m (suc (suc L)) a b h, between_ends (suc L) (omega arith))

  -- a trip over all cells, one at an end of them, and one between the ends
  held_most : held_above m a b (suc m) ≤ most_partitions m
  held_most = go (within m 0 0 a b) refl
    where
      others : (T (within m 0 0 a b) → ⊥) → Dec (0 < a) → Dec (b + 1 < 2 ^ m) → held_above m a b (suc m) ≤ most_partitions m
      others f (yes p) (yes q) = omega (arith, between_ends p q m (omega arith), at_least m)
      others f (yes p) (no q) = omega (arith, at_an_end f (λ w. q w.1) m (omega arith), at_least m)
      others f (no p) d = omega (arith, at_an_end f (λ w. p w.0) m (omega arith), at_least m)

      go : (c : Bool) → within m 0 0 a b ≡ c → held_above m a b (suc m) ≤ most_partitions m
      go true e = omega (arith, covered (rw e tt) m (omega arith), at_least m)
      go false e = others (λ t. rw e at t) (dec_lt 0 a) (dec_lt (b + 1) (2 ^ m))

-- A trip lies in at most 1 partition where m < 2, else in at most 2(m − 1): document 02, T-06.
pub most_partitions_lem : (s : Scale) (t : Trip) → partitions_holding s t ≤ most_partitions s.m
most_partitions_lem s t = rw (held_in_all s t) (held_most s.m (s.cell t.start) (s.cell t.end))

-- so in no more than 18, as no ruler is deeper
pub deepest_most : (s : Scale) (t : Trip) → s.m ≤ deepest → partitions_holding s t ≤ most_partitions deepest
deepest_most s t h = omega (arith, most_partitions_lem s t, rising s.m deepest h)

-- ---- and some trips lie in as many: those that leave out the first cell and the last, and no other

module _ (m : ℕ) where
  abbrev last : ℕ
  last = 2 ^ m - 2

  -- from level 2 on, the second partition holds such a trip, and the last but one
  module _ (L : ℕ) (h : suc (suc L) ≤ m) where
    abbrev cells : ℕ
    cells = 2 ^ (m - suc (suc L))

    some : 1 ≤ cells
    some = pow_pos (m - suc (suc L))

    four : 4 ≤ 2 ^ suc (suc L)
    four = omega (arith, two-pow-succ (suc L), two-pow-succ L, pow_pos L)

    second : T (holds m (suc (suc L)) 1 1 last)
    second =
        let e = all_cells m (suc (suc L)) h in
        to_holds m (suc L) 1 1 last
        (to_within m (suc (suc L)) 1 1 last (omega (arith, some)) (omega (arith, some, mul-le-mul_right cells four)))
        (λ t. let w = of_within m (suc L) 0 1 last t in omega arith)

    last_but_one : (k : ℕ) → k + 2 ≡ 2 ^ suc (suc L) → T (holds m (suc (suc L)) k 1 last)
    last_but_one k e =
        let all : (k + 2) * cells ≡ 2 ^ m = rw e (all_cells m (suc (suc L)) h) in
        let up : k / 2 + 1 ≡ 2 ^ suc L = omega (arith, two-pow-succ (suc L)) in
        let all_up : (k / 2 + 1) * 2 ^ (m - suc L) ≡ 2 ^ m = rw up (all_cells m (suc L) (omega arith)) in
        let two : 2 ≤ k = omega (arith, four) in
        let least = mul-le-mul_right cells two in
        to_holds m (suc L) k 1 last (to_within m (suc (suc L)) k 1 last (omega (arith, some)) (omega (arith, some)))
        (λ t. let w = of_within m (suc L) (k / 2) 1 last t in omega (arith, some))

    both : 2 ≤ count (λ i. holds m (suc (suc L)) i 1 last) (2 ^ suc (suc L))
    both =
        count_pair (λ i. holds m (suc (suc L)) i 1 last) (2 ^ suc (suc L)) 1 (2 ^ suc (suc L) - 2) (omega (arith, four)) (omega (arith, four)) second
        (last_but_one (2 ^ suc (suc L) - 2) (omega (arith, four)))

  held_least : (L : ℕ) → L ≤ m → 2 * (L - 1) ≤ held_above m 1 last (suc L)
  held_least zero h = omega arith
  held_least (suc zero) h = omega arith
  held_least (suc (suc L)) h = omega (arith, one_level_more m 1 last (suc (suc L)) h, both L h, held_least (suc L) (omega arith))

pub most_reached : (s : Scale) (t : Trip) → 2 ≤ s.m → s.cell t.start ≡ 1 → s.cell t.end ≡ 2 ^ s.m - 2
    → partitions_holding s t ≡ most_partitions s.m
most_reached s t h e f =
    let some : 2 * (s.m - 1) ≤ partitions_holding s t = rw (held_in_all s t, e, f) (held_least s.m s.m (omega arith)) in
    let most : most_partitions s.m ≡ 2 * (s.m - 1) = rw (le-ltb s.m 2 h) refl in
    omega (arith, some, most, most_partitions_lem s t)
