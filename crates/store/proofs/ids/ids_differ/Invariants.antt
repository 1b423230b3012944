-- In each class before this one the ids differ.
use mathlib.Core.Path.{◌≡◌}
use mathlib.Core.Bool.{true}
use Prim.Native.Nat.{ℕ, ◌<◌}
use lib.ListN.{length}
use Rattle.layout.specs.Words.{rows}
use Rattle.store.specs.Ids.{differ, room_length, of_class}
use Rattle.store.proofs.ids.ids_differ.Given as goal

abbrev pub invariant-loop-class : goal.invariant-loop-class
invariant-loop-class l = (length l.room ≡ room_length) × ((c : ℕ) → c < l.class → differ (of_class l.classes c (rows l.part) 0) ≡ true)
