-- Both halves are tested.
use Rattle.verify.specs.Local.{halves_ok}
use Rattle.verify.proofs.halves_ok.Goals as goal

pub returns : goal.returns
unfolding halves_ok
returns c = rw (c.half_ok.ensures, c.half_ok-2.ensures)
