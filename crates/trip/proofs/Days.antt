-- The bit of a day, set in a trip's days and in those asked for, is set in both.
use mathlib.Core.Path.{◌≡◌, sym, ap, ◌∙◌}
use mathlib.Core.Bool.{not}
use Prim.Native.Nat.{ℕ, zero, suc, ◌+◌, ◌-◌, ◌*◌, ◌/◌, ◌%◌, ◌^◌, ◌<◌}
use native.Mathlib.Nat.{one-mul, zero-mul, two-pow-succ}
use native.Mathlib.Omega.{arith}
use lib.Bits.{bit_and, and_high}
use lib.Dec.{eqb}
use lib.Pow.{pow_pos}
use borrow.Author.Tests.{ne_eqb}
use Rattle.trip.specs.declared.Trip.{Trip}
use Rattle.trip.specs.Trips.{runs_on, runs_on_any}

-- a number and one bit: the bit where it is set in the number, and else 0
and_bit : (n k : ℕ) → bit_and n (2 ^ k) ≡ n / 2 ^ k % 2 * 2 ^ k
and_bit n k =
    let next : 1 + k ≡ suc k = omega arith in
    let width : 2 ^ (1 + k) - 2 ^ k ≡ 2 ^ k = rw (next, two-pow-succ k) (omega arith) in
    ap (bit_and n) (sym width) ∙ and_high n 1 k

-- 0 or 1 times a positive number is 0 where it is 0 times
bit_told : (b p : ℕ) → b < 2 → 0 < p → not (eqb (b * p) 0) ≡ eqb b 1
bit_told zero p h l = rw zero-mul
bit_told (suc zero) p h l = rw (one-mul, ne_eqb p 0 (λ e. omega arith))
bit_told (suc (suc b)) p h l = absurd (omega arith)

pub runs_bit : (d : ℕ) (t : Trip) → runs_on_any (2 ^ d) t ≡ runs_on d t
unfolding runs_on runs_on_any
runs_bit d t = rw (and_bit t.days d) (bit_told (t.days / 2 ^ d % 2) (2 ^ d) (omega arith) (pow_pos d))
