-- What the rest of the chunk does from here is what the chunk does from its start.
use mathlib.Core.Path.{◌≡◌}
use lib.ListN.{length}
use Rattle.layout.specs.Calls.{index}
use Rattle.feeding.specs.Feeding.{held_by}
use Rattle.feeding.proofs.Holding.{Feeding}
use Rattle.feeding.proofs.feed.Given as goal

abbrev pub invariant-loop-byte : goal.invariant-loop-byte
invariant-loop-byte l =
    Feeding (held_by l.initial.standing (index l.initial.directory l.initial.originals l.initial.replicas) l.initial.answers) l.chunk l.initial.out l.standing (index l.directory l.originals l.replicas) l.answers
    l.out l.to l.byte-index
    × (length l.directory ≡ length l.initial.directory) × (length l.originals ≡ length l.initial.originals) × (length l.replicas ≡ length l.initial.replicas)
    × (length l.answers ≡ length l.initial.answers)
