-- The ids of those that pass, of the entries gone through, stand in the list's first words.
use Rattle.walk.specs.Part.{Listed}
use Rattle.walk.proofs.PartTurns.{found}
use Rattle.walk.proofs.list.list_where.Given as goal

abbrev pub invariant-loop-i : goal.invariant-loop-i
invariant-loop-i g l = Listed (found g.passes l.part l.i) l.initial.out l.out l.count
