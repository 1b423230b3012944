-- The trips left stand in a row after the last one met exactly if all of them stand in a row. The order is that of their keys.
use mathlib.Core.Path.{sym, ◌∙◌}
use Rattle.layout.specs.Words.{order}
use Rattle.verify.proofs.LoopTurns.{row_fails, met_first, met_out, met_low, met_more, met_end}
use native.Mathlib.Omega.{arith}
use Rattle.verify.proofs.half.in_row.Goals as goal

pub returns-then-not-stands : goal.returns-then-not-stands
returns-then-not-stands c =
    let out = rw c.trip_at.ensures at (sym c.stands.ensures ∙ c.if-not-stands.true) in
    sym (row_fails c.args.part.now _ (order c.args.d) (omega arith) out)

pub loop-k-init : goal.loop-k-init
loop-k-init c =
    let stood = rw c.trip_at.ensures at (sym c.stands.ensures ∙ c.if-not-stands.false) in
    met_first _ _ _ _ (λ i. omega (arith, c.type_inv.part i)) (omega arith) stood c.key_at-last.ensures

pub returns-then-not-stands-2 : goal.returns-then-not-stands-2
returns-then-not-stands-2 c =
    let out = rw c.trip_at-in-loop-k.ensures at (sym c.stands-in-loop-k.ensures ∙ c.if-not-stands-2.true) in
    met_out _ _ _ _ _ c.loop-k.invariant (omega arith) out c.args.d c.key_place-by.ensures

pub returns-then-key-last : goal.returns-then-key-last
returns-then-key-last c =
    let stood = rw c.trip_at-in-loop-k.ensures at (sym c.stands-in-loop-k.ensures ∙ c.if-not-stands-2.false) in
    met_low c.args.part.now _ _ _ _ c.loop-k.invariant _ (λ i. omega (arith, c.type_inv.part i)) (omega arith) stood c.key_at-key.ensures
    c.if-key-last.true c.args.d c.key_place-by.ensures

pub loop-k-preserved : goal.loop-k-preserved
loop-k-preserved c =
    let stood = rw c.trip_at-in-loop-k.ensures at (sym c.stands-in-loop-k.ensures ∙ c.if-not-stands-2.false) in
    met_more c.args.part.now _ _ _ _ c.loop-k.invariant _ (λ i. omega (arith, c.type_inv.part i)) (omega arith) stood c.key_at-key.ensures
    c.if-key-last.false

pub returns : goal.returns
returns c = met_end c.args.part.now _ _ _ _ c.loop-k.invariant (omega arith) c.args.d c.key_place-by.ensures
