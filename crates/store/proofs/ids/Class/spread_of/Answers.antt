-- A product of two words fits two words.
use mathlib.Core.Path.{refl}
use Rattle.store.specs.Ids.{spread}
use Rattle.store.proofs.ids.Class.spread_of.Goals as goal

pub returns : goal.returns
unfolding spread
returns c = refl
