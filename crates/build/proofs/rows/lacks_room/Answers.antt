-- The originals are the rows, and the replicas the other entries.
use mathlib.Core.Path.{refl}
use Rattle.ruler.specs.Made.{scale}
use Rattle.layout.specs.Words.{rows}
use Rattle.layout.proofs.MostEntries.{all_most}
use Rattle.layout.proofs.RulerCells.{deep-ruler}
use Rattle.layout.proofs.Rows.{length-rows}
use Rattle.build.proofs.RowTurns.{tested-fits}
use Rattle.build.proofs.RowsJudged.{rows-within, room-tested}
use native.Mathlib.Omega.{arith}
use Rattle.build.proofs.rows.lacks_room.Goals as goal

pub entries_of_all-all-requires-clause-few : goal.entries_of_all-all-requires-clause-few
entries_of_all-all-requires-clause-few c = omega (arith, length-rows c.args.table.now, c.requires.few)

pub entries_of_all-all-requires-clause-fit : goal.entries_of_all-all-requires-clause-fit
entries_of_all-all-requires-clause-fit c = tested-fits c.args.ruler c.args.table.now c.requires

pub overflow_sub-result : goal.overflow_sub-result
overflow_sub-result c =
    rows-within c.args.ruler c.args.table.now c.requires _ _ refl c.entries_of_all-all.ensures

pub overflow_mul-result-2 : goal.overflow_mul-result-2
overflow_mul-result-2 c =
    omega (
      arith,
      c.entries_of_all-all.ensures,
      all_most (scale c.args.ruler) (deep-ruler c.args.ruler) (rows c.args.table.now) c.requires.few,
    )

pub returns : goal.returns
returns c =
    room-tested c.args.ruler c.args.table.now c.requires _ _ refl c.entries_of_all-all.ensures c.args.originals c.args.replicas
