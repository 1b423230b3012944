-- The times that the two searches go by.
use Rattle.walk.specs.Cut.{start_of, end_of}
use Rattle.walk.proofs.cut.cut.Given as goal

abbrev pub ghost-within : goal.ghost-within
ghost-within a = start_of

abbrev pub ghost-within-2 : goal.ghost-within-2
ghost-within-2 a = end_of
