-- What the room had, and then the rest of the class, is what it has, and then what is left.
use mathlib.Core.Path.{◌≡◌}
use mathlib.Core.List.{◌++◌}
use Prim.Native.Nat.{◌+◌, ◌-◌, ◌≤◌}
use lib.ListN.{take}
use Rattle.layout.specs.Words.{rows}
use Rattle.store.specs.Ids.{of_class}
use Rattle.store.proofs.ids.Class.gather_rows.Given as goal

abbrev pub invariant-loop-k : goal.invariant-loop-k
invariant-loop-k l =
    (l.found ≤ l.had + (l.k - l.from))
    × (take l.had l.initial.room ++ of_class l.self.classes l.self.class (rows l.part) l.from ≡ take l.found l.room ++ of_class l.self.classes l.self.class (rows l.part) l.k)
