-- What is left of the class from the first row on is what was gathered, and then what is left.
use native.Mathlib.Omega.{arith}
use Rattle.layout.proofs.Rows.{length-rows}
use Rattle.store.proofs.ids.Class.gather.Goals as goal

pub returns : goal.returns
returns c =
    let turn = c.loop-k in
    let count = length-rows c.args.part.now in
    record { there = turn.invariant.3; fits = turn.invariant.1; full = λ h. absurd (omega (arith, count)); onward = λ h. omega (arith, count) }
