-- Partition numbers, for any m: a number below P names one partition of one level, and back. The words of a directory.
use mathlib.Core.Path.{◌≡◌, refl}
use mathlib.Core.Bool.{Bool, true, false}
use Prim.Native.Nat.{ℕ, zero, suc, ◌+◌, ◌-◌, ◌^◌, ◌≤◌, ◌<◌}
use native.Mathlib.Nat.{two-pow-succ}
use native.Mathlib.Numerals.{add-one}
use native.Mathlib.Omega.{arith}
use native.Mathlib.Decide.{dec_lt}
use lib.Dec.{leb}
use lib.Pow.{pow_pos, pow_mono}
use borrow.Author.Tests.{le-leb, lt-leb, leb-true, leb-false}
use Rattle.ruler.specs.Ruler.{deepest}
use Rattle.layout.specs.Words.{partitions, half_length, directory_length, partition_number, level_of, place_of}

pub level_number : (m L i : ℕ) → L ≤ m → i < 2 ^ L → level_of m (partition_number L i) ≡ L
unfolding level_of partition_number
level_number zero L i h l = omega arith
level_number (suc m) L i h l = go (dec_lt m L) (level_number m L i)
  where
    go : Dec (m < L) → (L ≤ m → i < 2 ^ L → level_of m (partition_number L i) ≡ L) → level_of (suc m) (partition_number L i) ≡ L
    go (yes p) ih =
        let e : L ≡ suc m = omega arith in
        rw (e, le-leb (partition_number (suc m) 0) (partition_number (suc m) i) (omega arith))
    go (no p) ih =
        let g : L ≤ m = omega arith in
        let a = pow_mono {i = suc L} {j = suc m} (omega arith) in
        rw (lt-leb (partition_number (suc m) 0) (partition_number L i) (omega (arith, two-pow-succ L, pow_pos L))) (ih g l)

double : (n : ℕ) → 2 ^ (n + 1) ≡ 2 ^ n + 2 ^ n
double n = rw add-one (two-pow-succ n)

-- the number p is one of level L's, of the levels 0 .. m
pub record Numbered (m p L : ℕ) : Type 0 where
  pub deep : L ≤ m
  pub low : 2 ^ L - 1 ≤ p
  pub high : p < 2 ^ L - 1 + 2 ^ L

pub numbered : (m p : ℕ) → p < partitions m → Numbered m p (level_of m p)
unfolding level_of partition_number partitions
numbered zero p h = record { deep = omega arith; low = omega arith; high = omega arith }
numbered (suc m) p h = go (leb (partition_number (suc m) 0) p) refl (numbered m p)
  where
    go : (b : Bool) → leb (partition_number (suc m) 0) p ≡ b → (p < partitions m → Numbered m p (level_of m p)) → Numbered (suc m) p (level_of (suc m) p)
    go true e ih =
        let l = leb-true (partition_number (suc m) 0) p e in
        let d = double (suc m) in
        rw e (record { deep = omega arith; low = omega arith; high = omega arith })
    go false e ih =
        let l = leb-false (partition_number (suc m) 0) p e in
        let n = ih (rw add-one (omega arith)) in
        rw e (record { deep = omega arith; low = n.low; high = n.high })

-- the place in its level, and back
pub place_lt : (m p : ℕ) → p < partitions m → place_of m p < 2 ^ level_of m p
unfolding place_of partition_number
place_lt m p h = let n = numbered m p h in omega (arith, pow_pos (level_of m p))

pub place_number : (m L i : ℕ) → L ≤ m → i < 2 ^ L → place_of m (partition_number L i) ≡ i
unfolding place_of partition_number
place_number m L i h l = rw (level_number m L i h l) (omega arith)

pub number_place : (m p : ℕ) → p < partitions m → partition_number (level_of m p) (place_of m p) ≡ p
unfolding place_of partition_number
number_place m p h = let n = numbered m p h in omega arith

pub number_lt : (m L i : ℕ) → L ≤ m → i < 2 ^ L → partition_number L i < partitions m
unfolding partition_number partitions
number_lt m L i h l = omega (arith, pow_mono h, double m, pow_pos L)

-- ---- the words of a directory: both halves have as many, and they are few

pub halves-length : (m : ℕ) → half_length m + half_length m ≡ directory_length m
unfolding half_length directory_length
halves-length m = omega arith

pub half_small : (m : ℕ) → m ≤ deepest → half_length m < 2 ^ (deepest + 2)
unfolding half_length partitions
half_small m h = rw (add-one m) (omega (arith, pow_mono h, two-pow-succ m, pow_pos m))
