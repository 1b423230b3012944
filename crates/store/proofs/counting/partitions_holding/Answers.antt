-- The pieces of the trip's cells are the partitions that hold it.
use Rattle.ruler.specs.Made.{scale}
use Rattle.layout.proofs.RulerCells.{fair_ruler, deep-ruler, last_cell_lem}
use Rattle.store.proofs.CountingWalk.{pieces-held}
use Rattle.store.proofs.counting.partitions_holding.Goals as goal

pub pieces_to-requires : goal.pieces_to-requires
pieces_to-requires c =
    let r = c.args.ruler in
    let t = c.args.t in
    let ordered = (fair_ruler r).never_falls t.start t.end c.requires.times.ordered in
    rw (c.bottom_cell-last.ensures, c.bottom_cell-first.ensures) (deep-ruler r, ordered, last_cell_lem r t c.requires)

pub returns : goal.returns
returns c =
    rw (c.pieces_to.ensures, c.bottom_cell-last.ensures, c.bottom_cell-first.ensures)
    (pieces-held (scale c.args.ruler) c.args.t (last_cell_lem c.args.ruler c.args.t c.requires))
