-- The last word.
use mathlib.Core.Path.{refl}
use Rattle.store.specs.Halves.{total}
use Rattle.store.proofs.half.entries_of.Goals as goal

pub returns : goal.returns
unfolding total
returns c = refl
