-- The zeros that end a cell's number: at as many levels up the cell is the first of those that lie in one. And the place of the highest digit.
use mathlib.Core.Path.{◌≡◌, refl, sym, ap, ◌∙◌}
use Prim.Native.Nat.{ℕ, zero, suc, ◌+◌, ◌-◌, ◌*◌, ◌/◌, ◌%◌, ◌^◌, ◌≤◌, ◌<◌}
use native.Mathlib.Nat.{two-pow-succ, div-div-eq-div-mul, mul_left_comm, div-one, mul-one, pow-succ'}
use native.Mathlib.Omega.{arith}
use lib.Count.{count_trailing_zeros, under, count_leading_zeros, leading_top}

-- a digit above the m lowest ends the count after them
pub zeros_ended : (m k c : ℕ) → m < k → c < 2 ^ m → count_trailing_zeros k (c + 2 ^ m) ≡ count_trailing_zeros m c
unfolding count_trailing_zeros
zeros_ended m zero c h l = absurd (omega arith)
zeros_ended zero (suc k) c h l = let one : (c + 2 ^ 0) % 2 ≡ 1 = omega arith in rw one
zeros_ended (suc m) (suc k) c h l =
    let p = two-pow-succ m in
    let digit : (c + 2 ^ suc m) % 2 ≡ c % 2 = omega arith in
    let rest : (c + 2 ^ suc m) / 2 ≡ c / 2 + 2 ^ m = omega arith in
    rw (digit, rest, zeros_ended m k (c / 2) (omega arith) (omega arith))

-- one level more is one halving more
down : (n i : ℕ) → n / 2 ^ suc i * 2 ^ suc i ≡ 2 * (n / 2 / 2 ^ i * 2 ^ i)
down n i =
    ap (λ (x : ℕ). n / x * x) (pow-succ' 2 i)
    ∙ ap (λ (x : ℕ). x * (2 * 2 ^ i)) (sym (div-div-eq-div-mul n 2 (2 ^ i)))
    ∙ mul_left_comm (n / 2 / 2 ^ i) 2 (2 ^ i)

-- as many levels up as there are zeros it is a first cell, and not at the next
pub zeros_begin : (m n i : ℕ) → i ≤ count_trailing_zeros m n → n / 2 ^ i * 2 ^ i ≡ n
unfolding count_trailing_zeros
zeros_begin m n zero h = mul-one (n / 1) ∙ div-one n
zeros_begin zero n (suc i) h = absurd (omega arith)
zeros_begin (suc m) n (suc i) h = go (n % 2) refl h (zeros_begin m (n / 2) i)
  where
    go : (r : ℕ) → n % 2 ≡ r → suc i ≤ under r (count_trailing_zeros m (n / 2)) → (i ≤ count_trailing_zeros m (n / 2) → n / 2 / 2 ^ i * 2 ^ i ≡ n / 2)
        → n / 2 ^ suc i * 2 ^ suc i ≡ n
    go zero e k ih = omega (arith, down n i, ih (omega arith))
    go (suc r) e k ih = absurd (omega arith)

pub zeros_stop : (m n : ℕ) → count_trailing_zeros m n < m → n / 2 ^ suc (count_trailing_zeros m n) * 2 ^ suc (count_trailing_zeros m n) < n
unfolding count_trailing_zeros
zeros_stop zero n h = absurd (omega arith)
zeros_stop (suc m) n h = go (n % 2) refl h (zeros_stop m (n / 2))
  where
    go : (r : ℕ) → n % 2 ≡ r → under r (count_trailing_zeros m (n / 2)) < suc m
        → (count_trailing_zeros m (n / 2) < m → n / 2 / 2 ^ suc (count_trailing_zeros m (n / 2)) * 2 ^ suc (count_trailing_zeros m (n / 2)) < n / 2)
        → n / 2 ^ suc (under r (count_trailing_zeros m (n / 2))) * 2 ^ suc (under r (count_trailing_zeros m (n / 2))) < n
    go zero e k ih = omega (arith, down n (suc (count_trailing_zeros m (n / 2))), ih (omega arith))
    go (suc r) e k ih = omega arith

-- the place of the highest digit of a word, by the zeros above it
pub highest : (d : ℕ) → 0 < d → d < 2 ^ 32 → (count_leading_zeros 32 d ≤ 31) × (2 ^ (31 - count_leading_zeros 32 d) ≤ d) × (d < 2 ^ (31 - count_leading_zeros 32 d + 1))
highest d p h =
    let top = leading_top 32 d p h in
    let place : 31 - count_leading_zeros 32 d ≡ top.0 = omega (arith, top.1) in
    let next : top.0 + 1 ≡ suc top.0 = omega arith in
    (omega (arith, top.1), rw place top.2, rw (place, next) top.3)
