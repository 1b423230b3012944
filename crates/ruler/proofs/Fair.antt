-- What the laws of the index ask of a scale, and that the scale of numbers in bounds has it: two proofs, one for each kind of ruler.
use mathlib.Core.Path.{◌≡◌, refl, ap, ◌∙◌}
use mathlib.Core.Bool.{true, ◌&&◌}
use Prim.Native.Nat.{ℕ, ◌+◌, ◌-◌, ◌*◌, ◌/◌, ◌^◌, ◌≤◌, ◌<◌}
use native.Mathlib.Nat.{mul_comm, add-mul, mul-le-mul_right, div-mul-le_self, le-div_iff_mul-le, div-lt_iff_lt-mul}
use native.Mathlib.Omega.{arith}
use lib.Dec.{T, leb, ltb, leb→le, ltb→lt}
use lib.Pow.{pow_pos, pow_mono, shr-shr, shr_mono, shr_lt}
use Rattle.lists.proofs.Tests.{of_and, of_three, to_T}
use Rattle.ruler.specs.declared.Time.{Time}
use Rattle.ruler.specs.declared.Numbers.{Numbers}
use Rattle.ruler.specs.declared.Numbers.TheVariants.{Bits, Spread}
use Rattle.ruler.specs.Ruler.{Scale, widest, deepest, in_bounds, scale_of, cell_up, bottom_of}

-- the map from times to level-m cells never falls, a time of the ruler has one of the 2 ^ m cells, and it is far from the end of a word
pub record Fair (s : Scale) : Type 0 where
  pub never_falls : (t u : Time) → t.0 ≤ u.0 → s.cell t ≤ s.cell u
  pub one_of : (t : Time) → T (s.has t) → s.cell t < 2 ^ s.m
  pub not-far : (t : Time) → T (s.has t) → t.0 < 2 ^ widest

-- what the scale of some numbers says of them
pub scale-good : (n : Numbers) → (scale_of n).good ≡ in_bounds n
unfolding scale_of
scale-good (Bits w m) = refl
scale-good (Spread m lo hi) = refl

pub scale_bottom : (n : Numbers) → (scale_of n).m ≡ bottom_of n
unfolding scale_of
scale_bottom (Bits w m) = refl
scale_bottom (Spread m lo hi) = refl

-- ---- the first kind

-- the four tests of its numbers, as facts
pub record BitsIn (w m : ℕ) : Type 0 where
  pub some : 1 ≤ w
  pub wide : w ≤ widest
  pub deep : m ≤ deepest
  pub fits : m ≤ w

pub bits_in : (w m : ℕ) → T (in_bounds (Bits w m)) → BitsIn w m
unfolding in_bounds
bits_in w m t =
    let a = of_and (leb 1 w && leb w widest && leb m deepest) (leb m w) t in
    let b = of_three (leb 1 w) (leb w widest) (leb m deepest) a.0 in
    record { some = leb→le 1 w b.0; wide = leb→le w widest b.1; deep = leb→le m deepest b.2; fits = leb→le m w a.1 }

pub bits_of : {n : Numbers} {w m : ℕ} → n ≡ Bits w m → in_bounds n ≡ true → BitsIn w m
bits_of {w = w} {m = m} e g = bits_in w m (to_T (rw e at g))

fair_bits : (w m : ℕ) → BitsIn w m → Fair (scale_of (Bits w m))
unfolding scale_of
fair_bits w m h = record {
  never_falls = λ t u l. shr_mono (w - m) l;
  one_of = λ t b. shr_lt m (w - m) (let e : m + (w - m) ≡ w = omega (arith, h.fits) in rw e (ltb→lt t.0 (2 ^ w) b));
  not-far = λ t b. omega (arith, ltb→lt t.0 (2 ^ w) b, pow_mono h.wide);
}

-- "The cell of time t at level L is the whole part of t / 2^(w − L)."
pub cell_at_level : (w m L : ℕ) (t : Time) → m ≤ w → L ≤ m → cell_up m L ((scale_of (Bits w m)).cell t) ≡ t.0 / 2 ^ (w - L)
unfolding cell_up scale_of
cell_at_level w m L t h g = let e : w - m + (m - L) ≡ w - L = omega arith in shr-shr t.0 (w - m) (m - L) ∙ ap (λ (k : ℕ). t.0 / 2 ^ k) e

-- ---- the second kind

-- the three tests of its numbers
pub record SpreadIn (m lo hi : ℕ) : Type 0 where
  pub deep : m ≤ deepest
  pub apart : lo < hi
  pub near : hi < 2 ^ widest

pub spread_in : (m lo hi : ℕ) → T (in_bounds (Spread m lo hi)) → SpreadIn m lo hi
unfolding in_bounds
spread_in m lo hi t =
    let a = of_three (leb m deepest) (ltb lo hi) (ltb hi (2 ^ widest)) t in
    record { deep = leb→le m deepest a.0; apart = ltb→lt lo hi a.1; near = ltb→lt hi (2 ^ widest) a.2 }

pub spread_of : {n : Numbers} {m lo hi : ℕ} → n ≡ Spread m lo hi → in_bounds n ≡ true → SpreadIn m lo hi
spread_of {m = m} {lo = lo} {hi = hi} e g = spread_in m lo hi (to_T (rw e at g))

-- its times, as facts
pub record Among (lo hi t : ℕ) : Type 0 where
  pub from : lo ≤ t
  pub to : t ≤ hi

pub among : (m lo hi : ℕ) (t : Time) → T ((scale_of (Spread m lo hi)).has t) → Among lo hi t.0
unfolding scale_of
among m lo hi t h = let a = of_and (leb lo t.0) (leb t.0 hi) h in record { from = leb→le lo t.0 a.0; to = leb→le t.0 hi a.1 }

-- so many steps over so many seconds never fall
climb : (k d : ℕ) {x y : ℕ} → 0 < d → x ≤ y → x * k / d ≤ y * k / d
climb k d {x = x} {y = y} p h = (le-div_iff_mul-le p).1 (omega (arith, div-mul-le_self (x * k) d, mul-le-mul_right k h))

-- and after all seconds all steps are climbed
climbed : (k d : ℕ) {x : ℕ} → 0 < d → x ≤ d → x * k / d < k + 1
climbed k d {x = x} p h = (div-lt_iff_lt-mul p).1 (omega (arith, mul-le-mul_right k h, mul_comm d k, add-mul k 1 d))

fair_spread : (m lo hi : ℕ) → SpreadIn m lo hi → Fair (scale_of (Spread m lo hi))
unfolding scale_of
fair_spread m lo hi h =
    let some : 0 < hi - lo = omega (arith, h.apart) in
    record {
      never_falls = λ t u l. climb (2 ^ m - 1) (hi - lo) some (omega arith);
      one_of = λ t b. let a = among m lo hi t b in omega (arith, climbed (2 ^ m - 1) (hi - lo) {x = t.0 - lo} some (omega (arith, a.to)), pow_pos m);
      not-far = λ t b. omega (arith, (among m lo hi t b).to, h.near);
    }

-- ---- either kind

pub scale-m : (n : Numbers) → T (in_bounds n) → (scale_of n).m ≤ deepest
unfolding scale_of
scale-m (Bits w m) t = (bits_in w m t).deep
scale-m (Spread m lo hi) t = (spread_in m lo hi t).deep

pub fair : (n : Numbers) → T (in_bounds n) → Fair (scale_of n)
fair (Bits w m) t = fair_bits w m (bits_in w m t)
fair (Spread m lo hi) t = fair_spread m lo hi (spread_in m lo hi t)
