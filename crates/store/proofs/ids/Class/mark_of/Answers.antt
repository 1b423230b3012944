-- The highest bits of the low word of the product.
use mathlib.Core.Path.{ap}
use Prim.Native.Nat.{ℕ, ◌/◌, ◌%◌}
use Rattle.store.specs.Entries.{word_end}
use Rattle.store.specs.Marks.{mark_share, mark_of}
use Rattle.store.proofs.ids.Class.mark_of.Goals as goal

pub returns : goal.returns
unfolding mark_of
returns c = ap (λ (n : ℕ). n % word_end / mark_share) c.spread_of.ensures
