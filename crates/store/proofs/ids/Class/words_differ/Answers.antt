-- The words before this one differ, and each of them set its mark.
use mathlib.Core.Path.{refl, sym, ◌∙◌}
use native.Mathlib.Omega.{arith}
use Rattle.store.proofs.Marks.{told-start, mark_inside, not-marked, told_more, told_stop}
use Rattle.store.proofs.ids.Class.words_differ.Goals.{else-set_before-via-then-set_before+else-has, else-set_before-via-else-set_before}
use Rattle.store.proofs.ids.Class.words_differ.Goals as goal

pub loop-i-init : goal.loop-i-init
loop-i-init c = told-start _ _ _ refl

pub set_mark-set_before-requires : goal.set_mark-set_before-requires
set_mark-set_before-requires c = rw c.mark_of.ensures (mark_inside _ _)

pub returns-then-has : goal.returns-then-has
returns-then-has c = sym (told_stop c.args.words.now _ (omega arith) (sym c.has.ensures ∙ c.if-has.true))

pub loop-i-preserved : goal.loop-i-preserved
loop-i-preserved c =
    let args = c.args in
    let told = c.loop-i.invariant in
    let more = told_more args.words.now _ (omega arith) args.self.classes _ c.mark_of.ensures told c.set_mark-set_before.ensures.1 in
    elim c.else-set_before.branch [
      | else-set_before-via-then-set_before+else-has w ↦ more (sym w.has.ensures ∙ w.if-has.false)
      | else-set_before-via-else-set_before w ↦
          more (not-marked args.words.now _ (omega arith) args.self.classes _ c.mark_of.ensures told (sym c.set_mark-set_before.ensures.0 ∙ w.if-set_before.false))
    ]
