-- The steps in parts, over the seconds: 10 bits and 48 stay in a double word.
use mathlib.Core.Path.{◌≡◌}
use Prim.Native.Nat.{◌*◌, ◌%◌, ◌^◌}
use native.Mathlib.Omega.{arith}
use native.Mathlib.Nat.{div-le_self}
use lib.Pow.{shl_exact}
use Rattle.lists.proofs.Tests.{to_T}
use Rattle.ruler.specs.Ruler.{share_of, steps_of, share_bits}
use Rattle.ruler.proofs.Shares.{sized}
use Rattle.ruler.proofs.kinds.share_of.Goals as goal

-- the parts of all steps stay in a double word
in_parts : (c : goal.After-span_of)
    → c.steps_of.result * 2 ^ share_bits % 2 ^ 64 ≡ steps_of c.args.n * 2 ^ share_bits
in_parts c =
    rw c.steps_of.ensures (shl_exact 11 share_bits 64 (omega (arith, (sized c.args.n (to_T c.requires)).few)) (omega arith))

pub nonzero_div-result : goal.nonzero_div-result
nonzero_div-result c = omega (arith, c.span_of.ensures, (sized c.args.n (to_T c.requires)).some)

pub overflow_add-result : goal.overflow_add-result
overflow_add-result c =
    let parts = c.steps_of.result * 2 ^ share_bits % 2 ^ 64 in
    omega (arith, in_parts c, (sized c.args.n (to_T c.requires)).few, div-le_self parts c.span_of.result)

pub returns : goal.returns
unfolding share_of
returns c = rw (in_parts c, c.span_of.ensures)
