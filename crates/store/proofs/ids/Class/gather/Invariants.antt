-- What is left of the class from the first row on is what was gathered, and then what is left.
use mathlib.Core.Path.{◌≡◌}
use mathlib.Core.List.{◌++◌}
use Prim.Native.Nat.{◌+◌, ◌-◌, ◌≤◌}
use lib.ListN.{length, take}
use Rattle.layout.specs.Words.{rows}
use Rattle.store.specs.Ids.{of_class}
use Rattle.store.proofs.ids.Class.gather.Given as goal

abbrev pub invariant-loop-k : goal.invariant-loop-k
invariant-loop-k l =
    (l.found + l.from ≤ l.k) × (l.found ≤ length l.room) × (length l.room ≡ length l.initial.room)
    × (of_class l.self.classes l.self.class (rows l.part) l.from ≡ take l.found l.room ++ of_class l.self.classes l.self.class (rows l.part) l.k)

abbrev pub decreases-loop-k : goal.decreases-loop-k
decreases-loop-k l = l.n - l.k
