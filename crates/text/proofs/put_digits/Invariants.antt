-- The digits of what is left, over the bytes now, are those of the number over the bytes at entry.
-- Assumes nothing.
use mathlib.Core.Path.{◌≡◌}
use lib.ListN.{length}
use Rattle.text.specs.Decimal.{decimal}
use Rattle.lists.specs.Lists.{over}
use Rattle.text.proofs.put_digits.Given as goal

abbrev pub invariant-loop-i : goal.invariant-loop-i
invariant-loop-i l = (l.i ≡ length (decimal l.left)) × (over (decimal l.left) l.out ≡ over (decimal l.n) l.initial.out)
