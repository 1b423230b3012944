-- What is left is blank and no word met is another than zero, exactly if the whole is blank.
use mathlib.Core.Path.{◌≡◌}
use mathlib.Core.Bool.{◌&&◌}
use lib.Dec.{eqb}
use lib.ListN.{drop}
use Rattle.verify.specs.Passing.{blank}
use Rattle.verify.proofs.half.is_blank.Given as goal

abbrev pub invariant-loop-word : goal.invariant-loop-word
invariant-loop-word l = eqb l.any 0 && blank (drop l.word-index l.words) ≡ blank l.words
