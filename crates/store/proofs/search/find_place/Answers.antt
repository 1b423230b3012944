-- Those that come before the trip stand in front.
use borrow.Author.Rules.{rules}
use Rattle.trip.specs.declared.Trip.{Trip}
use Rattle.layout.specs.Words.{order}
use Rattle.store.proofs.Found.{before_front, place_parted}
use Rattle.store.proofs.search.find_place.Goals as goal

pub returns : goal.returns
returns c =
    let a = c.args in
    place_parted a.part.now a.d a.t _
    (c.entries_while.ensures (λ (u : Trip). order a.d u a.t) (λ u b r. search rules) (before_front a.part.now a.d a.t c.requires))
