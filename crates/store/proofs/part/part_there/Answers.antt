-- The two words are in the directory, and the part in the arena.
use mathlib.Core.Path.{refl}
use Rattle.store.specs.Parts.{part_words}
use Rattle.store.proofs.part.part_there.Goals as goal

pub returns : goal.returns
unfolding part_words
returns c = refl
