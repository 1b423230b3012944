-- The partition of the first cell on the home level, and whether the trip ends there.
use mathlib.Core.Path.{◌≡◌, refl}
use mathlib.Core.Bool.{Bool, cond, not}
use Prim.Native.Nat.{ℕ, ◌+◌, ◌*◌, ◌≤◌}
use lib.Pow.{pow_mono}
use Rattle.ruler.specs.declared.Cell.{Cell}
use Rattle.ruler.specs.declared.Ruler.{Ruler}
use Rattle.ruler.specs.Ruler.{Scale, deepest, bottom_cell, same_cell, cell_in, cell_rank}
use Rattle.ruler.specs.Made.{scale}
use Rattle.trip.specs.declared.Trip.{Trip}
use Rattle.layout.specs.Stored.{is_in}
use Rattle.layout.specs.Refusals.{Fits}
use Rattle.layout.specs.Words.{slot_number, partition_number}
use Rattle.layout.proofs.RulerCells.{fair_ruler, deep-ruler, first_cell_lem, last_cell_lem}
use Rattle.store.specs.Homes.{home_level, home, home_at}
use Rattle.store.proofs.Homes.{level_deep, place_there}
use native.Mathlib.Omega.{arith}
use Rattle.store.proofs.places.home.Goals as goal

-- its slot, from what the code finds in turn
slot_is : (s : Scale) (t : Trip) {a b p q : Cell} {L rank r : ℕ} {ends : Bool} → a ≡ bottom_cell s t.start → b ≡ bottom_cell s t.end
    → L ≡ home_level s.m (s.cell t.start) (s.cell t.end) s.m → q ≡ cell_in L b → p ≡ cell_in L a → ends ≡ same_cell q p
    → rank ≡ cell_rank (cell_in L a) → r ≡ 2 * rank + cond (not ends) 1 0 → r ≡ home s t
unfolding home home_at is_in slot_number partition_number
slot_is s t a b l q p e k r = rw (r, e, k, q, p, a, b, l)

-- the level that the code finds, from the cells of the trip's times
module _ (r : Ruler) (t : Trip) (fits : Fits (scale r) t) {a b : Cell} {L : ℕ} (first : a ≡ bottom_cell (scale r) t.start)
    (last : b ≡ bottom_cell (scale r) t.end) (found : L ≡ home_level a.0 a.1 b.1 a.0) where
  level_is : L ≡ home_level (scale r).m ((scale r).cell t.start) ((scale r).cell t.end) (scale r).m
  level_is = rw (last, first) at found

  deep : (L ≤ (scale r).m) × ((scale r).m ≤ deepest)
  deep = (rw level_is (level_deep r t fits), deep-ruler r)

pub home_level-level-requires : goal.home_level-level-requires
home_level-level-requires c =
    let r = c.args.ruler in
    let t = c.args.t in
    let ordered = (fair_ruler r).never_falls t.start t.end c.requires.times.ordered in
    rw (c.bottom_cell-b.ensures, c.bottom_cell-a.ensures) (deep-ruler r, refl, ordered, last_cell_lem r t c.requires)

pub at_level-requires : goal.at_level-requires
at_level-requires c =
    rw c.bottom_cell-b.ensures
    (deep c.args.ruler c.args.t c.requires c.bottom_cell-a.ensures c.bottom_cell-b.ensures c.home_level-level.ensures)

pub at_level-requires-2 : goal.at_level-requires-2
at_level-requires-2 c =
    rw c.bottom_cell-a.ensures
    (deep c.args.ruler c.args.t c.requires c.bottom_cell-a.ensures c.bottom_cell-b.ensures c.home_level-level.ensures)

pub rank_at-requires : goal.rank_at-requires
rank_at-requires c =
    let r = c.args.ruler in
    let d = deep r c.args.t c.requires c.bottom_cell-a.ensures c.bottom_cell-b.ensures c.home_level-level.ensures in
    rw c.bottom_cell-a.ensures (d.0, d.1, first_cell_lem r c.args.t c.requires)

pub slot_of-requires : goal.slot_of-requires
slot_of-requires c =
    let r = c.args.ruler in
    let t = c.args.t in
    let fits = c.requires in
    let level = c.home_level-level in
    let d = deep r t fits c.bottom_cell-a.ensures c.bottom_cell-b.ensures level.ensures in
    let small : level.result ≤ deepest = omega (arith, d) in
    rw (c.rank_at.ensures, c.bottom_cell-a.ensures) (omega (arith, place_there r t fits level.result d.0, pow_mono small))

pub returns : goal.returns
returns c =
    let first = c.bottom_cell-a.ensures in
    let last = c.bottom_cell-b.ensures in
    let level = level_is c.args.ruler c.args.t c.requires first last c.home_level-level.ensures in
    slot_is _ _ first last level c.at_level.ensures c.at_level-2.ensures c.same-ends.ensures c.rank_at.ensures c.slot_of.ensures
