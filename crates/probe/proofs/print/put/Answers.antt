-- A number has at most ten digits, so they have room.
use mathlib.Core.Path.{◌≡◌, ap, ◌∙◌}
use mathlib.Core.List.{List}
use Prim.Native.Nat.{ℕ, ◌+◌, ◌-◌, ◌^◌, ◌≤◌, ◌<◌}
use lib.ListN.{length, take, drop, length-take, length-drop}
use Rattle.text.specs.Number.{most_digits}
use Rattle.text.specs.Decimal.{decimal, Written, written, written_of}
use Rattle.text.proofs.Writing.{ten_digits, fits-front}
use native.Mathlib.Omega.{arith}
use Rattle.probe.proofs.print.put.Goals as goal

-- what is written at a place has at most ten digits
few : (out : List ℕ) (at n : ℕ) → n < 2 ^ 32 → at + most_digits ≤ length out → {count : ℕ} {bytes : List ℕ}
    → written count bytes ≡ written_of n (take (length out - at) (drop at out)) → count ≤ most_digits
few out at n small room e =
    let part = take (length out - at) (drop at out) in
    let digits = ten_digits n small in
    let fits : length (decimal n) ≤ length part = simp (length-take, length-drop) (omega arith) in
    omega (arith, ap (λ (w : Written). w.count) (e ∙ fits-front n part fits))

pub overflow_add-result : goal.overflow_add-result
overflow_add-result c = omega (arith, few c.args.out.now c.args.at c.args.n (omega arith) (omega arith) c.write_number.ensures)

pub returns : goal.returns
returns c = omega (arith, few c.args.out.now c.args.at c.args.n (omega arith) (omega arith) c.write_number.ensures)
