-- k entries are passed, and none of them has the id.
use mathlib.Core.Path.{sym, ◌∙◌}
use Prim.Native.Nat.{◌<◌}
use lib.ListN.{length}
use borrow.Author.Tests.{eq-eqb, ne_eqb}
use Rattle.layout.specs.Words.{rows}
use Rattle.layout.proofs.Rows.{length-rows}
use Rattle.edit.proofs.IndexRead.{row_id, search_hit, search_miss, search_end}
use native.Mathlib.Omega.{arith}
use Rattle.edit.proofs.tests.find_id.Goals as goal

pub returns-then-part-k : goal.returns-then-part-k
returns-then-part-k c =
    let l = c.loop-k in
    let p = c.args.part.now in
    let h : l.k < length (rows p) = rw length-rows (omega arith) in
    (h, search_hit c.args.id l.k (rows p) h l.invariant (eq-eqb _ _ (row_id p l.k (omega arith) ∙ c.if-part-k.true)))

pub loop-k-preserved : goal.loop-k-preserved
loop-k-preserved c =
    let l = c.loop-k in
    let p = c.args.part.now in
    let h : l.k < length (rows p) = rw length-rows (omega arith) in
    search_miss c.args.id l.k (rows p) h l.invariant (ne_eqb _ _ (λ q. c.if-part-k.false (sym (row_id p l.k (omega arith)) ∙ q)))

pub returns : goal.returns
returns c =
    let p = c.args.part.now in
    omega (arith, length-rows p, search_end c.args.id c.loop-k.k (rows p) (omega (arith, length-rows p)) c.loop-k.invariant)
