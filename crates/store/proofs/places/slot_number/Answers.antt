-- The slots of as many partitions as come before it; 2 ^ level is at most 2 ^ 10.
use Rattle.layout.specs.Words.{slot_number, partition_number}
use Rattle.store.proofs.places.slot_number.Goals as goal

pub returns : goal.returns
unfolding slot_number partition_number
returns c = rw (c.slot_of.ensures, c.rank.ensures)
