-- The copy and the zeros are `closed`.
use Prim.Native.Nat.{◌*◌}
use Rattle.layout.specs.Words.{entry_words}
use Rattle.store.proofs.Gaps.{copied_down}
use native.Mathlib.Omega.{arith}
use borrow.Author.Rules.{rules}
use Rattle.store.proofs.gap.close_gap.Goals as goal

pub returns : goal.returns
returns c = let a = c.args in
    copied_down (entry_words * a.at) (entry_words * a.used) _ a.arena.now _ c.fill.new.self (omega arith) (omega arith) (omega arith)
    c.copy_within.ensures.after (search rules)
