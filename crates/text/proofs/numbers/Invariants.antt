-- The numbers read, before those of what is left, are the numbers of all.
-- Assumes nothing.
use Rattle.text.proofs.Meaning.{ReadNumbers}
use Rattle.text.proofs.numbers.Given as goal

abbrev pub invariant-loop-number : goal.invariant-loop-number
invariant-loop-number g l = ReadNumbers g.row.N l.after_letter l.number-items l.left l.number-index
