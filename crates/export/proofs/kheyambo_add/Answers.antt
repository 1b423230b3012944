-- The outcome of the entry, in numbers.
use Rattle.export.specs.Said.{add_said}
use Rattle.export.proofs.Thin.{left_so}
use Rattle.export.proofs.kheyambo_add.Goals as goal

pub returns : goal.returns
unfolding add_said
returns c =
    left_so c.from-2.ensures (rw (c.from.ensures, c.of-t.ensures) at c.add.ensures)
