-- One original, at its home; the replicas by a walk.
use mathlib.Core.Path.{refl}
use Rattle.layout.proofs.RulerCells.{fair_ruler}
use Rattle.store.proofs.Walking.{set_first}
use Rattle.store.proofs.Homes.{one_home}
use native.Mathlib.Omega.{arith}
use Rattle.store.proofs.places.trip_slots.Goals as goal

pub returns-in-Originals : goal.returns-in-Originals
returns-in-Originals c =
    let half = c.in-Originals.is in
    let home = one_home _ (fair_ruler c.args.ruler) c.args.t c.requires.0 in
    rw (half, home, c.home.ensures) (refl, set_first _ _ (omega (arith, c.requires.1)))
