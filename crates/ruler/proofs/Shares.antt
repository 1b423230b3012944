-- What a ruler keeps gives its times and its cells: one law for both kinds.
use mathlib.Core.Path.{◌≡◌, refl, sym, ap, ◌∙◌}
use mathlib.Core.Bool.{◌&&◌}
use Prim.Native.Nat.{ℕ, ◌+◌, ◌-◌, ◌*◌, ◌/◌, ◌^◌, ◌≤◌, ◌<◌}
use native.Mathlib.Nat.{mul_comm, mul_assoc, mul-add, add-mul, mul_right_comm, mul-le-mul_left, mul-le-mul_right}
use native.Mathlib.Nat.{mul-lt-mul_of_pos_right, le_of_mul-le-mul_right, lt_of_mul-lt-mul_right, div-mul-le_self, lt-div-mul-add, le-div_iff_mul-le, div-lt_iff_lt-mul}
use native.Mathlib.Omega.{arith}
use lib.Dec.{T, leb, ltb, leb→le, le→leb, ltb→lt, lt→ltb}
use lib.Pow.{pow_pos, pow_mono, shl-shr, shr-shr}
use Rattle.lists.proofs.Tests.{agree, of_and, to_and, of_three, to_three, to_T}
use Rattle.ruler.specs.declared.Time.{Time}
use Rattle.ruler.specs.declared.Numbers.{Numbers}
use Rattle.ruler.specs.declared.Numbers.TheVariants.{Bits, Spread}
use Rattle.ruler.specs.declared.Ruler.{Ruler}
use Rattle.ruler.specs.Ruler.{widest, deepest, in_bounds, scale_of, spans, first_time_of, last_time_of, steps_of, span_of, share_bits, share_of}
use Rattle.ruler.specs.Made.{scale}
use Rattle.ruler.proofs.Fair.{bits_in, spread_in, among, scale-m, fair}

-- ---- a product in place of a division

-- k steps over d seconds, in P parts to the step: a second's share is one part too large, which d seconds and fewer don't notice if P is large
module _ (x k d P : ℕ) (some : 0 < d) where
  abbrev share : ℕ
  share = k * P / d + 1

  -- the shares of so many seconds, d times over, lie between so many steps and a little more
  over : x * share * d ≡ x * (k * P / d * d + d)
  over = let e : share * d ≡ k * P / d * d + d = omega (arith, add-mul (k * P / d) 1 d) in mul_assoc x share d ∙ ap (λ (a : ℕ). x * a) e

  from : x * k * P ≤ x * share * d
  from =
      let h : k * P ≤ k * P / d * d + d = omega (arith, lt-div-mul-add {a = k * P} some) in
      omega (arith, over, mul_assoc x k P, mul-le-mul_left x h)

  to : x * share * d ≤ x * k * P + x * d
  to = omega (arith, over, mul_assoc x k P, mul-add x (k * P / d * d) d, mul-le-mul_left x (div-mul-le_self (k * P) d))

  no_less : 0 < P → x * k / d ≤ x * share / P
  no_less p =
      let q = x * k / d in
      let a : q * P * d ≤ x * k * P = omega (arith, mul_right_comm q P d, mul-le-mul_right P (div-mul-le_self (x * k) d)) in
      (le-div_iff_mul-le p).1 (le_of_mul-le-mul_right {k = d} (omega (arith, a, from)) some)

  no_more : x * d < P → x * share / P < x * k / d + 1
  no_more h =
      let q = x * k / d in
      let p : 0 < P = omega arith in
      let next : x * k + 1 ≤ (q + 1) * d = omega (arith, lt-div-mul-add {a = x * k} some, add-mul q 1 d) in
      let b : x * k * P + P ≤ (q + 1) * P * d = omega (arith, mul_right_comm (q + 1) P d, mul-le-mul_right P next, add-mul (x * k) 1 P) in
      (div-lt_iff_lt-mul p).1 (lt_of_mul-lt-mul_right d (omega (arith, to, b)))

  pub shared : x * d < P → x * share / P ≡ x * k / d
  shared h = let a = no_less (omega arith) in let b = no_more h in omega arith

  -- and they are not many
  pub shares_few : x ≤ d → x * share ≤ k * P + x
  shares_few h = omega (arith, mul-add x (k * P / d) 1, mul-le-mul_right (k * P / d) h, mul_comm d (k * P / d), div-mul-le_self (k * P) d)

-- ---- either kind of ruler climbs so many cells over so many seconds

-- its seconds and its steps
pub record Sized (d k : ℕ) : Type 0 where
  pub some : 0 < d
  pub wide : d ≤ 2 ^ widest
  pub few : k ≤ 2 ^ deepest

pub sized : (n : Numbers) → T (in_bounds n) → Sized (span_of n) (steps_of n)
unfolding span_of steps_of
sized (Bits w m) g = let b = bits_in w m g in record { some = pow_pos w; wide = pow_mono b.wide; few = pow_mono b.deep }
sized (Spread m lo hi) g =
    let b = spread_in m lo hi g in
    record { some = omega (arith, b.apart); wide = omega (arith, b.near); few = omega (arith, pow_mono b.deep) }

-- a time's place among its seconds
record Placed (x d : ℕ) : Type 0 where
  pub inside : x ≤ d
  pub near : x < 2 ^ widest

placed : (n : Numbers) → T (in_bounds n) → (t : Time) → T ((scale_of n).has t) → Placed (t.0 - first_time_of n) (span_of n)
unfolding scale_of first_time_of span_of
placed (Bits w m) g t h =
    let l = ltb→lt t.0 (2 ^ w) h in
    let wide = pow_mono (bits_in w m g).wide in
    record { inside = omega arith; near = omega arith }
placed (Spread m lo hi) g t h =
    let to = (among m lo hi t h).to in
    record { inside = omega arith; near = omega (arith, (spread_in m lo hi g).near) }

-- so many seconds climb so many cells
cell-climbs : (n : Numbers) → T (in_bounds n) → (t : Time) → (scale_of n).cell t ≡ (t.0 - first_time_of n) * steps_of n / span_of n
unfolding scale_of first_time_of span_of steps_of
cell-climbs (Bits w m) g t =
    let e : m + (w - m) ≡ w = omega (arith, (bits_in w m g).fits) in
    let all : t.0 - 0 ≡ t.0 = omega arith in
    rw all (ap (λ (x : ℕ). x / 2 ^ (w - m)) (sym (shl-shr t.0 m)) ∙ shr-shr (t.0 * 2 ^ m) m (w - m) ∙ ap (λ (k : ℕ). t.0 * 2 ^ m / 2 ^ k) e)
cell-climbs (Spread m lo hi) g t = refl

-- ---- its times

pub between : (n : Numbers) (t : Time) → leb (first_time_of n) t.0 && leb t.0 (last_time_of n) ≡ (scale_of n).has t
unfolding scale_of first_time_of last_time_of
between (Bits w m) t =
    agree (leb 0 t.0 && leb t.0 (2 ^ w - 1)) (ltb t.0 (2 ^ w))
    (λ h. lt→ltb t.0 (2 ^ w) (omega (arith, leb→le t.0 (2 ^ w - 1) (of_and (leb 0 t.0) (leb t.0 (2 ^ w - 1)) h).1, pow_pos w)))
    (λ h. to_and (leb 0 t.0) (leb t.0 (2 ^ w - 1)) (le→leb 0 t.0 (omega arith))
    (le→leb t.0 (2 ^ w - 1) (omega (arith, ltb→lt t.0 (2 ^ w) h))))
between (Spread m lo hi) t = refl

pub of_between : (n : Numbers) (t : Time) → T ((scale_of n).has t) → (first_time_of n ≤ t.0) × (t.0 ≤ last_time_of n)
of_between n t h =
    let a = of_and (leb (first_time_of n) t.0) (leb t.0 (last_time_of n)) (rw (between n t) h) in
    (leb→le (first_time_of n) t.0 a.0, leb→le t.0 (last_time_of n) a.1)

to_between : (n : Numbers) (t : Time) → first_time_of n ≤ t.0 → t.0 ≤ last_time_of n → T ((scale_of n).has t)
to_between n t h g =
    rw (← between n t) (to_and (leb (first_time_of n) t.0) (leb t.0 (last_time_of n)) (le→leb (first_time_of n) t.0 h) (le→leb t.0 (last_time_of n) g))

-- of two times in order the first is tested for the ruler's start, the second for its end
pub between_both : (n : Numbers) (a b : Time) → leb (first_time_of n) a.0 && leb a.0 b.0 && leb b.0 (last_time_of n) ≡ spans (scale_of n) a b
between_both n a b =
    let first = leb (first_time_of n) a.0 in
    let order = leb a.0 b.0 in
    let last = leb b.0 (last_time_of n) in
    agree (first && order && last) (spans (scale_of n) a b)
    (λ h.
    let f = of_three first order last h in
    let x = leb→le (first_time_of n) a.0 f.0 in
    let y = leb→le a.0 b.0 f.1 in
    let z = leb→le b.0 (last_time_of n) f.2 in
    to_three ((scale_of n).has a) ((scale_of n).has b) order (to_between n a x (omega arith), to_between n b (omega arith) z, f.1))
    (λ h.
    let f = of_three ((scale_of n).has a) ((scale_of n).has b) order h in
    let x = (of_between n a f.0).0 in
    let z = (of_between n b f.1).1 in
    to_three first order last (le→leb (first_time_of n) a.0 x, f.2, le→leb b.0 (last_time_of n) z))

-- ---- the cell of a time, by what the ruler keeps

module _ (n : Numbers) (good : T (in_bounds n)) (t : Time) (there : T ((scale_of n).has t)) where
  by_shares : (t.0 - first_time_of n) * share_of n / 2 ^ share_bits ≡ (scale_of n).cell t
  unfolding share_of
  by_shares =
      let p = placed n good t there in
      let q = sized n good in
      let x = t.0 - first_time_of n in
      let a : x * span_of n < 2 ^ widest * span_of n = mul-lt-mul_of_pos_right p.near q.some in
      let b = mul-le-mul_left (2 ^ widest) q.wide in
      shared x (steps_of n) (span_of n) (2 ^ share_bits) q.some (omega (arith, a, b)) ∙ sym (cell-climbs n good t)

  shares_fit : (t.0 - first_time_of n) * share_of n < 2 ^ 64
  unfolding share_of
  shares_fit =
      let p = placed n good t there in
      let q = sized n good in
      let few = shares_few (t.0 - first_time_of n) (steps_of n) (span_of n) (2 ^ share_bits) q.some p.inside in
      omega (arith, few, p.near, mul-le-mul_right (2 ^ share_bits) q.few)

module _ (r : Ruler) (t : Time) (there : T ((scale r).has t)) where
  good : T (in_bounds r.numbers)
  good = to_T r.good

  -- no sum nor product leaves its word
  pub from_first : r.first ≤ t.0
  from_first = rw r.first_is (of_between r.numbers t there).0

  pub in_word : (t.0 - r.first) * r.share < 2 ^ 64
  in_word = rw (r.first_is, r.share_is) (shares_fit r.numbers good t there)

  pub cell-is : (t.0 - r.first) * r.share / 2 ^ share_bits ≡ (scale r).cell t
  cell-is = rw (r.first_is, r.share_is) (by_shares r.numbers good t there)

  pub small_cell : (scale r).cell t < 2 ^ 32
  small_cell = omega (arith, (fair r.numbers good).one_of t there, pow_mono (scale-m r.numbers good))
