-- The words before this one differ, and each of them set its mark.
use Rattle.store.proofs.Marks.{Told}
use Rattle.store.proofs.ids.Class.words_differ.Given as goal

abbrev pub invariant-loop-i : goal.invariant-loop-i
invariant-loop-i l = Told l.self.classes l.words l.marks l.i
