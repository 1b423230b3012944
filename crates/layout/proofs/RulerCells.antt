-- What is known of any ruler: its scale is fair, its deepest level is not too deep, and the cells of a trip that it takes are its own.
use mathlib.Core.Path.{◌≡◌, ◌∙◌}
use mathlib.Core.Bool.{true}
use Prim.Native.Nat.{◌^◌, ◌≤◌, ◌<◌}
use Rattle.lists.proofs.Tests.{to_T}
use Rattle.ruler.specs.declared.Ruler.{Ruler}
use Rattle.ruler.specs.Ruler.{deepest}
use Rattle.ruler.specs.Made.{scale}
use Rattle.ruler.proofs.Fair.{Fair, scale-good, scale-m, fair}
use Rattle.trip.specs.declared.Trip.{Trip}
use Rattle.layout.specs.Refusals.{Fits}

module _ (r : Ruler) where
  pub good-ruler : (scale r).good ≡ true
  good-ruler = scale-good r.numbers ∙ r.good

  pub fair_ruler : Fair (scale r)
  fair_ruler = fair r.numbers (to_T (r.good))

  pub deep-ruler : (scale r).m ≤ deepest
  deep-ruler = scale-m r.numbers (to_T (r.good))

  pub first_cell_lem : (t : Trip) → Fits (scale r) t → (scale r).cell t.start < 2 ^ (scale r).m
  first_cell_lem t f = fair_ruler.one_of t.start f.times.starts

  pub last_cell_lem : (t : Trip) → Fits (scale r) t → (scale r).cell t.end < 2 ^ (scale r).m
  last_cell_lem t f = fair_ruler.one_of t.end f.times.ends
