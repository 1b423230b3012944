-- For each row of keys that the closure tells: what is left climbs from the last key on exactly if all do.
use mathlib.Core.Path.{sym, ◌∙◌}
use Rattle.store.proofs.Differing.{keys_none, keys_first, keys_more, keys_stop, keys_end}
use native.Mathlib.Omega.{arith}
use Rattle.store.proofs.climbing.climbs.Goals as goal

pub returns-then-n-eq0 : goal.returns-then-n-eq0
returns-then-n-eq0 g c = λ keys tells. sym (keys_none keys c.args.n c.if-n-eq0.true)

pub loop-k-init : goal.loop-k-init
loop-k-init g c = λ keys tells.
    let first = tells 0 _ (omega arith) c.key-last.ensures in rw first (keys_first keys c.args.n (omega arith))

pub returns-then-next-last : goal.returns-then-next-last
returns-then-next-last g c = λ keys tells.
    let at = c.loop-k in
    let here = tells at.k _ (omega arith) c.key-next.ensures in
    sym (keys_stop keys c.args.n at.k at.last (omega arith) (rw here at c.if-next-last.true)) ∙ at.invariant keys tells

pub loop-k-preserved : goal.loop-k-preserved
loop-k-preserved g c = λ keys tells.
    let at = c.loop-k in
    let here = tells at.k _ (omega arith) c.key-next.ensures in
    rw here (keys_more keys c.args.n at.k at.last (omega arith) (rw here at c.if-next-last.false) ∙ at.invariant keys tells)

pub returns : goal.returns
returns g c = λ keys tells.
    let at = c.loop-k in
    sym (keys_end keys c.args.n at.k at.last (omega arith)) ∙ at.invariant keys tells
