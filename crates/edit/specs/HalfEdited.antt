-- One half of the words of an index, before an edit that is accepted and after it.
use Rattle.std.specs.Prelude.{◌≡◌, ℕ, length}
use mathlib.Core.List.{List}
use Rattle.ruler.specs.Ruler.{Scale}
use Rattle.trip.specs.declared.Trip.{Trip}
use Rattle.layout.specs.declared.Half.{Half}
use Rattle.layout.specs.Words.{directory_half, Index}
use Rattle.layout.specs.Words as laid
use Rattle.store.specs.Parts.{arena_of}

-- these are the half's words in the index of the trips ts, in an arena as long as that of x
pub record HalfOf (s : Scale) (half : Half) (ts : List Trip) (x : Index) (dir arena : List ℕ) : Type 0 where
  pub directory-is : dir ≡ directory_half s half ts
  pub arena-is : arena ≡ laid.arena s half ts (length (arena_of half x.originals x.replicas))
