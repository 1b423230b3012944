-- The closure reads the first word of each step.
use Prim.Native.Nat.{ℕ, ◌*◌}
use lib.ListN.{get_or}
use borrow.Author.Rules.{rules}
use Rattle.store.specs.Ids.{every_step}
use Rattle.store.proofs.ids.climb.Goals as goal

pub returns : goal.returns
unfolding every_step
returns c = c.climbs.ensures (λ (k : ℕ). get_or c.args.words.now (c.args.step * k) 0) (λ k x h r. search rules)
