-- The turn of what is kept, and then nothing is held.
use Rattle.feeding.proofs.Holding.{line-left}
use Rattle.feeding.proofs.line_done.Goals as goal

pub returns : goal.returns
returns c = line-left c.args.standing _ _ c.requires.0 (rw c.bytes.ensures at c.turn-turned.ensures) _ c.new.ensures
