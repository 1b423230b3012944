-- By its kind.
use mathlib.Core.Path.{refl, sym}
use Rattle.export.specs.Said.{numbers_named}
use Rattle.export.proofs.NamedRulers.{other_kinds}
use Rattle.export.proofs.NumbersFromNamedRuler.from.Goals as goal

pub returns-then-ruler-eq-BITS : goal.returns-then-ruler-eq-BITS
unfolding numbers_named
returns-then-ruler-eq-BITS c = rw c.if-ruler-eq-BITS.true refl

pub returns-then-ruler-eq-SPREAD : goal.returns-then-ruler-eq-SPREAD
unfolding numbers_named
returns-then-ruler-eq-SPREAD c = rw c.if-ruler-eq-SPREAD.true refl

pub returns : goal.returns
returns c = sym (other_kinds c.args.ruler c.if-ruler-eq-BITS.false c.if-ruler-eq-SPREAD.false)
