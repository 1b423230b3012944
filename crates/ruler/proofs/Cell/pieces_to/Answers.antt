-- By digits; from the first cell on there is nothing before it.
use mathlib.Core.Path.{◌≡◌, sym, ap}
use Prim.Native.Nat.{ℕ, ◌+◌, ◌-◌, ◌%◌, ◌^◌, ◌≤◌, ◌<◌}
use native.Mathlib.Nat.{two-pow-succ, mod-lt}
use native.Mathlib.Numerals.{add-one}
use lib.Pow.{pow_pos, pow_mono}
use Rattle.ruler.specs.Ruler.{deepest}
use Rattle.ruler.proofs.Pieces.{pieces_first, xor_some, share_small, counted}
use native.Mathlib.Omega.{arith}
use Rattle.ruler.proofs.Cell.pieces_to.Goals as goal

-- both numbers are small
small : (c : goal.After-power-share)
    → let a = c.args in
    (c.power-share.result ≤ 2 ^ deepest) × ((a.self.1 - 1) % c.power-share.result < c.power-share.result) × ((a.last.1 + 1) % c.power-share.result < c.power-share.result)
small c =
    let a = c.args in
    let d = c.ilog2.result in
    let p = pow_pos d in
    let few = share_small a.self.0 a.self.1 a.last.1 d c.requires.0 (omega arith) c.requires.1 c.requires.2 c.ilog2.ensures.power_le c.ilog2.ensures.next_power_gt in
    rw c.power-share.ensures (few, mod-lt (a.self.1 - 1) p, mod-lt (a.last.1 + 1) p)

pub overflow_add-after : goal.overflow_add-after
overflow_add-after c = omega (arith, pow_mono c.requires.0)

pub returns-then-self-eq0 : goal.returns-then-self-eq0
returns-then-self-eq0 c =
    let m = c.args.self.0 in
    let first : c.args.self.1 ≡ 0 = omega arith in
    let more : c.args.last.1 + 1 < 2 ^ (m + 1) = omega (arith, two-pow-succ m, ap (λ (k : ℕ). 2 ^ k) (add-one m), pow_pos m) in
    rw first (sym (pieces_first (m + 1) (c.args.last.1 + 1) more))

pub ilog2-requires : goal.ilog2-requires
ilog2-requires c = xor_some (c.args.self.1 - 1) (c.args.last.1 + 1) (omega arith)

pub overflow_sub-result : goal.overflow_sub-result
overflow_sub-result c = rw c.power-share.ensures (pow_pos _)

pub nonzero_rem-result : goal.nonzero_rem-result
nonzero_rem-result c = rw c.power-share.ensures (pow_pos _)

pub overflow_sub-result-2 : goal.overflow_sub-result-2
overflow_sub-result-2 c = omega (arith, small c)

pub overflow_mul-result : goal.overflow_mul-result
overflow_mul-result c = omega (arith, small c)

pub nonzero_rem-result-2 : goal.nonzero_rem-result-2
nonzero_rem-result-2 c = rw c.power-share.ensures (pow_pos _)

pub overflow_add-result : goal.overflow_add-result
overflow_add-result c = omega (arith, small c)

pub returns : goal.returns
returns c =
    let a = c.args in
    let met = counted a.self.0 a.self.1 a.last.1 c.ilog2.result c.requires.0 (omega arith) c.requires.1 c.requires.2 c.ilog2.ensures.power_le in
    rw c.power-share.ensures (met c.ilog2.ensures.next_power_gt)
