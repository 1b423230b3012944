-- k entries are passed, and none of them has the id.
use mathlib.Core.Path.{◌≡◌}
use Prim.Native.Nat.{◌+◌}
use lib.ListN.{drop}
use Rattle.layout.specs.Words.{rows}
use Rattle.edit.specs.Search.{place_of_id}
use Rattle.edit.proofs.tests.find_id.Given as goal

abbrev pub invariant-loop-k : goal.invariant-loop-k
invariant-loop-k l = place_of_id l.id (rows l.part) ≡ l.k + place_of_id l.id (drop l.k (rows l.part))
