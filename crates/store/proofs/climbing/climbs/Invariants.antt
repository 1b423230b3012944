-- For each row of keys that the closure tells: what is left climbs from the last key on exactly if all do.
use mathlib.Core.Path.{◌≡◌}
use Prim.Native.Nat.{ℕ}
use lib.ListN.{drop}
use Rattle.lists.specs.Lists.{up_to}
use Rattle.store.specs.Ids.{climbs_from, climbs, TellsBelow}
use Rattle.store.proofs.climbing.climbs.Given as goal

abbrev pub invariant-loop-k : goal.invariant-loop-k
invariant-loop-k g l =
    (keys : ℕ → ℕ) → TellsBelow l.n (goal.F-post g l.key) keys → climbs_from l.last (drop l.k (up_to keys l.n)) ≡ climbs (up_to keys l.n)
