-- Nothing is kept.
use mathlib.Core.Path.{refl}
use Rattle.lists.specs.Lists.{padded}
use native.Mathlib.Omega.{arith}
use Rattle.feeding.proofs.line.Line.new.Goals as goal

pub invariant_of-result : goal.invariant_of-result
unfolding padded
invariant_of-result c = record { kept = record { within = omega arith; zeros = refl } }
