-- The ids of the class that are left differ exactly if all of it do.
use mathlib.Core.Path.{◌≡◌}
use Prim.Native.Nat.{◌-◌}
use lib.ListN.{length}
use Rattle.layout.specs.Words.{rows}
use Rattle.store.specs.Ids.{differ, of_class}
use Rattle.store.proofs.ids.Class.differs.Given as goal

abbrev pub invariant-loop-k : goal.invariant-loop-k
invariant-loop-k l =
    (length l.room ≡ length l.initial.room) × (differ (of_class l.self.classes l.self.class (rows l.part) l.k) ≡ differ (of_class l.self.classes l.self.class (rows l.part) 0))

abbrev pub decreases-loop-k : goal.decreases-loop-k
decreases-loop-k l = l.n - l.k
