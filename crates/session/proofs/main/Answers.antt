-- The words lent are those of the session's start.
use mathlib.Core.Path.{refl}
use Rattle.layout.specs.Words.{directory_length, partitions}
use Rattle.dialogue.specs.Session.{start}
use Rattle.session.proofs.main.Goals as goal

pub take_all-requires : goal.take_all-requires
unfolding start directory_length partitions
take_all-requires c = refl
