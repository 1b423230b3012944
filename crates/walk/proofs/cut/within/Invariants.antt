-- Both searches go by the time of this one.
use Rattle.walk.proofs.cut.within.Given as goal

abbrev pub ghost-entries_before : goal.ghost-entries_before
ghost-entries_before g a = g.at
