-- The outcome of the entry and the count, in numbers.
use Rattle.export.specs.Said.{ask_said}
use Rattle.export.proofs.Thin.{told_so}
use Rattle.export.proofs.kheyambo_ask.Goals as goal

pub returns : goal.returns
unfolding ask_said
returns c =
    rw (c.count_of.ensures, c.from-said.ensures, c.outcome_of.ensures)
    (told_so c.ask-answer.result (rw (c.from.ensures, c.of-asking.ensures) at c.ask-answer.ensures))
