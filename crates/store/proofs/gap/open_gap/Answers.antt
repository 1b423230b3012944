-- The copy is `opened`.
use mathlib.Core.Path.{◌∙◌}
use Prim.Native.Nat.{◌*◌}
use Rattle.layout.specs.Words.{entry_words}
use Rattle.store.proofs.Gaps.{copied_up}
use native.Mathlib.Omega.{arith}
use Rattle.store.proofs.gap.open_gap.Goals as goal

pub returns : goal.returns
returns c = let a = c.args in
    c.copy_within.ensures.after ∙ copied_up (entry_words * a.at) (entry_words * a.used) a.arena.now (omega arith)
