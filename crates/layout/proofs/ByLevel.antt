-- The partitions that hold a trip, counted level by level.
use mathlib.Core.Path.{◌≡◌, refl, ap, ◌∙◌}
use mathlib.Core.Bool.{Bool}
use Prim.Native.Nat.{ℕ, suc, ◌+◌, ◌-◌, ◌^◌, ◌≤◌}
use native.Mathlib.Nat.{add-zero, two-pow-succ}
use native.Mathlib.Numerals.{add-one}
use native.Mathlib.Omega.{arith}
use lib.Pow.{pow_pos}
use Rattle.lists.specs.Lists.{count}
use Rattle.lists.proofs.Counts.{count_add, count_ext}
use Rattle.ruler.specs.Ruler.{Scale}
use Rattle.trip.specs.declared.Trip.{Trip}
use Rattle.layout.specs.Stored.{holds, holds_trip}
use Rattle.layout.specs.Words.{partitions, partition_number, level_of, place_of, partitions_holding}
use Rattle.layout.proofs.Numbers.{level_number, place_number}

next_level : (L : ℕ) → partition_number (suc L) 0 ≡ partition_number L 0 + 2 ^ L
unfolding partition_number
next_level L = omega (arith, two-pow-succ L, pow_pos L)

module _ (m a b : ℕ) where
  at : ℕ → Bool
  at p = holds m (level_of m p) (place_of m p) a b

  -- how many partitions of the levels above level L hold a trip with the level-m cells a..b
  pub held_above : (L : ℕ) → ℕ
  held_above L = count at (partition_number L 0)

  one_level : (L : ℕ) → L ≤ m → count (λ i. at (partition_number L 0 + i)) (2 ^ L) ≡ count (λ i. holds m L i a b) (2 ^ L)
  unfolding at partition_number
  one_level L h = count_ext _ _ (2 ^ L) (λ i l.
      let e : 2 ^ L - 1 + 0 + i ≡ partition_number L i = omega arith in
      rw (e, level_number m L i h l, place_number m L i h l))

  pub none_above : held_above 0 ≡ 0
  unfolding held_above partition_number count
  none_above = refl

  pub one_level_more : (L : ℕ) → L ≤ m → held_above (suc L) ≡ held_above L + count (λ i. holds m L i a b) (2 ^ L)
  unfolding held_above
  one_level_more L h =
      rw (next_level L) (count_add at (partition_number L 0) (2 ^ L) ∙ ap (λ (n : ℕ). count at (partition_number L 0) + n) (one_level L h))

-- all levels together
pub held_in_all : (s : Scale) (t : Trip) → partitions_holding s t ≡ held_above s.m (s.cell t.start) (s.cell t.end) (suc s.m)
unfolding partitions_holding held_above at holds_trip partitions partition_number
held_in_all s t = rw (add-one s.m, add-zero (2 ^ suc s.m - 1)) refl
