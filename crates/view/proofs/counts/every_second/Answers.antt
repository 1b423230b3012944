-- The total is no more than the word of the next slot, so it fits.
use Prim.Native.Nat.{◌+◌, ◌*◌}
use Rattle.view.proofs.SlotWords.{sum_below}
use native.Mathlib.Omega.{arith}
use Rattle.view.proofs.counts.every_second.Goals as goal

pub overflow_add-total-in-loop-i : goal.overflow_add-total-in-loop-i
overflow_add-total-in-loop-i c =
    let a = c.args in
    let i = c.loop-i.i in
    let w = c.requires in
    let sum = sum_below a.directory.now a.from a.n w i (omega arith) in
    let word = c.type_inv.directory (a.from + 2 * i + 1) in
    omega (arith, c.loop-i.invariant, sum, w.rises (2 * i) (omega arith), word)
