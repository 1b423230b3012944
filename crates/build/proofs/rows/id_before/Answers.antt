-- The rows passed do not have the id, so those left decide.
use mathlib.Core.Path.{◌≡◌, sym, ap, ◌∙◌}
use mathlib.Core.Bool.{Bool, ◌||◌}
use Prim.Native.Nat.{ℕ, ◌-◌}
use borrow.Author.Tests.{eq-eqb, ne_eqb}
use Rattle.trip.specs.declared.Trip.{Trip}
use Rattle.layout.specs.Refusals.{has_id}
use Rattle.build.specs.RowsJudged.{rows_back}
use Rattle.build.proofs.RowsJudged.{before_turn}
use native.Mathlib.Omega.{arith}
use Rattle.build.proofs.rows.id_before.Goals as goal

pub returns-then-t-id : goal.returns-then-t-id
returns-then-t-id c =
    let g = c.args in
    let k = c.loop-j in
    let has = eq-eqb _ _ (sym (ap (λ (t : Trip). t.id) c.trip_at-t.ensures) ∙ c.if-t-id.true) in
    sym (ap (λ (b : Bool). b || has_id g.id (rows_back g.table.now (k.j - 1))) has)
    ∙ sym (before_turn g.table.now g.id k.j (omega arith)) ∙ k.invariant

pub loop-j-preserved : goal.loop-j-preserved
loop-j-preserved c =
    let g = c.args in
    let k = c.loop-j in
    let lacks = ne_eqb _ _ (λ e. c.if-t-id.false (ap (λ (t : Trip). t.id) c.trip_at-t.ensures ∙ e)) in
    let rest = sym (ap (λ (b : Bool). b || has_id g.id (rows_back g.table.now (k.j - 1))) lacks)
    ∙ sym (before_turn g.table.now g.id k.j (omega arith)) in
    rest ∙ k.invariant

pub returns : goal.returns
unfolding has_id
returns c =
    let g = c.args in
    let e : c.loop-j.j ≡ 0 = omega arith in
    sym (ap (λ (k : ℕ). has_id g.id (rows_back g.table.now k)) e) ∙ c.loop-j.invariant
