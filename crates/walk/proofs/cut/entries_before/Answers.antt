-- What is earlier stands in front.
use borrow.Author.Rules.{rules}
use Rattle.walk.specs.Cut.{earlier_than}
use Rattle.walk.proofs.Searched.{early_front}
use Rattle.walk.proofs.cut.entries_before.Goals as goal

pub returns : goal.returns
returns g c =
    let a = c.args in
    c.entries_while.ensures (earlier_than g.at a.limit) (λ u b r. search (rules, c.requires.1.1.0)) (early_front g.at a.limit a.part.now c.requires.1.1.1)
