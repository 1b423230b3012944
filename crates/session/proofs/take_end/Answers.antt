-- The words lent have room for a last line.
use Rattle.std.proofs.Common.{rules}
use Rattle.layout.specs.Words.{directory_length, partitions}
use Rattle.session.proofs.take_end.Goals as goal

pub finish-fed-requires : goal.finish-fed-requires
unfolding directory_length partitions
finish-fed-requires c = search rules
