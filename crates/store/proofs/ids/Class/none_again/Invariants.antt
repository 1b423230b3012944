-- What is left is apart from the room exactly if all is.
use mathlib.Core.Path.{◌≡◌}
use Rattle.layout.specs.Words.{rows}
use Rattle.store.specs.Ids.{apart, of_class}
use Rattle.store.proofs.ids.Class.none_again.Given as goal

abbrev pub invariant-loop-k : goal.invariant-loop-k
invariant-loop-k l = apart l.room (of_class l.self.classes l.self.class (rows l.part) l.k) ≡ apart l.room (of_class l.self.classes l.self.class (rows l.part) l.from)
