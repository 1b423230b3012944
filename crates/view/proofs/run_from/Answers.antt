-- That of the place.
use mathlib.Core.Path.{ap}
use Rattle.view.specs.declared.Place.{Place}
use Rattle.view.proofs.ViewEntries.{shown}
use Rattle.view.proofs.run_from.Goals as goal

pub returns : goal.returns
returns c = ap (λ (p : Place). p.from) (shown _ _ _ _ _ c.unwrap_or-place.ensures c.run_place.ensures)
