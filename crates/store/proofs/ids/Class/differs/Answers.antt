-- The ids of the class that are left differ exactly if all of it do.
use mathlib.Core.Path.{sym, ap, ◌∙◌}
use native.Mathlib.Omega.{arith}
use Rattle.lists.proofs.Lent.{head_lent}
use Rattle.layout.proofs.Rows.{length-rows}
use Rattle.store.specs.Ids.{differ}
use Rattle.store.proofs.Classes.{class_none, front_stop, front_all, front_again, front-more, full_room, none_differ}
use Rattle.store.proofs.ids.Class.differs.Goals as goal

pub returns-then-n-k : goal.returns-then-n-k
returns-then-n-k c =
    let args = c.args in
    let none = class_none args.self.classes args.self.class args.part.now c.gather-found.result.next (omega arith) in
    c.words_differ.ensures ∙ ap differ (head_lent _ c.gather-found.result.found) ∙ sym (front_all _ _ _ c.gather-found.ensures.there none) ∙ c.loop-k.invariant.1

pub returns-then-not-put_in_order : goal.returns-then-not-put_in_order
returns-then-not-put_in_order c =
    let whole = full_room c.args.part.now c.gather-found.ensures (omega arith) in
    sym (front_stop _ _ _ whole (sym c.put_in_order.ensures.0 ∙ c.if-not-put_in_order.true)) ∙ c.loop-k.invariant.1

pub returns-then-not-none_again : goal.returns-then-not-none_again
returns-then-not-none_again c =
    let whole = full_room c.args.part.now c.gather-found.ensures (omega arith) in
    let again = sym c.none_again.ensures ∙ c.if-not-none_again.true in
    sym (front_again _ _ _ whole _ c.put_in_order.ensures.1 again) ∙ c.loop-k.invariant.1

pub loop-k-smaller : goal.loop-k-smaller
loop-k-smaller c =
    omega (arith, c.gather-found.ensures.onward (omega (arith, length-rows c.args.part.now)))

pub loop-k-preserved : goal.loop-k-preserved
loop-k-preserved c =
    let whole = full_room c.args.part.now c.gather-found.ensures (omega arith) in
    let once = sym c.put_in_order.ensures.0 ∙ c.if-not-put_in_order.false in
    let no_more = sym c.none_again.ensures ∙ c.if-not-none_again.false in
    (omega arith, front-more _ _ _ whole _ c.put_in_order.ensures.1 once no_more ∙ c.loop-k.invariant.1)

pub returns : goal.returns
returns c =
    let args = c.args in
    let none = class_none args.self.classes args.self.class args.part.now c.loop-k.k (omega arith) in
    sym (none_differ _ none) ∙ c.loop-k.invariant.1
