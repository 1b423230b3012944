-- The three tests of `all_slots_ok`, each by its function.
use Rattle.verify.specs.Local.{all_slots_ok}
use Rattle.verify.proofs.TestsPassed.{of_halves}
use Rattle.verify.proofs.all_slots_ok.Goals as goal

pub slots_ok-firsts-requires-clause-half_passed : goal.slots_ok-firsts-requires-clause-half_passed
slots_ok-firsts-requires-clause-half_passed c = (of_halves _ _ _ _ c.requires.halves_passed).0

pub slots_ok-copies-requires-clause-half_passed : goal.slots_ok-copies-requires-clause-half_passed
slots_ok-copies-requires-clause-half_passed c = (of_halves _ _ _ _ c.requires.halves_passed).1

pub returns : goal.returns
unfolding all_slots_ok
returns c = rw (c.entries_of-few.ensures, c.slots_ok-firsts.ensures, c.slots_ok-copies.ensures)
