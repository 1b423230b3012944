-- The high word of the product.
use mathlib.Core.Path.{ap}
use Prim.Native.Nat.{ℕ, ◌/◌}
use Rattle.store.specs.Entries.{word_end}
use Rattle.store.specs.Ids.{class_of}
use Rattle.store.proofs.ids.Class.class_of.Goals as goal

pub returns : goal.returns
unfolding class_of
returns c = ap (λ (n : ℕ). n / word_end) c.spread_of.ensures
