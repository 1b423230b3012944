-- What is held from chunk to chunk is what some input, fed from the start, leaves.
use Rattle.layout.specs.Calls.{index}
use Rattle.feeding.specs.Feeding.{held_by, Sound, Reached}
use Rattle.session.proofs.take_all.Given as goal

abbrev pub invariant-loop : goal.invariant-loop
invariant-loop g l =
    Sound l.standing × Reached (held_by l.standing (index l.directory l.originals l.replicas) l.answers)
