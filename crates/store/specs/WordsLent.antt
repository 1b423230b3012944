-- The words of an index that are lent to be read, as lists.
use Rattle.layout.specs.Words.{Index}
use Rattle.layout.specs.Calls.{index}
use Rattle.store.specs.declared.words.Words.{Words}

abbrev pub index_of : Words → Index
index_of w = index w.directory.now w.originals.now w.replicas.now
