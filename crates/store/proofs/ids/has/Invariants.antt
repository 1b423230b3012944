-- Some word so far is the id, or one that is left.
use mathlib.Core.Path.{◌≡◌}
use mathlib.Core.Bool.{◌||◌}
use lib.ListN.{drop}
use Rattle.store.specs.Ids.{among}
use Rattle.store.proofs.ids.has.Given as goal

abbrev pub invariant-loop-word : goal.invariant-loop-word
invariant-loop-word l = (l.found || among l.id (drop l.word-index l.words)) ≡ among l.id l.words
