-- The words lent have room for each line that may end in a chunk; where the write fails, the chunk was fed all the same.
use Rattle.std.proofs.Common.{rules}
use Rattle.std.proofs.lemmas.Result.{err_from_is_err_and}
use Rattle.layout.specs.Words.{directory_length, partitions}
use Rattle.session.proofs.take_chunk.Goals as goal

pub feed-fed-requires : goal.feed-fed-requires
unfolding directory_length partitions
feed-fed-requires c = search rules

pub returns-in_err-write_front-clause-err : goal.returns-in_err-write_front-clause-err
returns-in_err-write_front-clause-err g c =
    let why = err_from_is_err_and c.from_residual.result c.from_residual.ensures.1 in
    rw why.1 (c.feed-fed.result.standing, c.feed-fed.ensures.sound, c.feed-fed.ensures.holds)
