-- The frame of a slot: the level-m cells in which its trips start and end. A trip that fits the ruler stands in a slot exactly if it starts and
-- ends in the slot's frame (the law `in_frame`).
use Rattle.std.specs.Prelude.{◌≡◌, Bool, true, false, cond, not, ◌&&◌, ◌||◌, ℕ, ◌+◌, ◌-◌, ◌/◌, ◌%◌, ◌^◌, eqb}
use Rattle.ruler.specs.declared.Cell.{Cell}
use Rattle.ruler.specs.Ruler.{Scale, cell_of, bottom_cell, no_later_cell}
use Rattle.trip.specs.declared.Trip.{Trip}
use Rattle.layout.specs.declared.Half.{Half}
use Rattle.layout.specs.declared.Half.TheVariants.{Originals, Replicas}
use Rattle.layout.specs.Stored.{first_cell, last_cell}
use Rattle.layout.specs.Refusals.{fits}
use Rattle.verify.specs.declared.partition.Cells.{Cells}
use Rattle.verify.specs.declared.partition.Frame.{Frame}

-- the level-m cells from one on, up to another that is not of them
abbrev pub cells : (m from until : ℕ) → Cells
cells m from until = record { from = cell_of m from; until = cell_of m until }

unfoldable pub has_cell : Cells → Cell → Bool
has_cell r c = no_later_cell r.from c && not (no_later_cell r.until c)

pub record AtLevel (m : ℕ) (r : Cells) : Type 0 where
  pub from_at : r.from.0 ≡ m
  pub until_at : r.until.0 ≡ m

-- An original starts in the first cell of its partition, a replica before it: after the parent's first cell, where that is another, since the
-- parent does not hold the trip.
unfoldable pub starts_of : (m : ℕ) → Half → (L i : ℕ) → Cells
starts_of m Originals L i = cells m (first_cell m L i) (first_cell m L i + 1)
starts_of m Replicas L i = cells m (cond (eqb (i % 2) 0) 0 (first_cell m (L - 1) (i / 2) + 1)) (first_cell m L i)

-- an "in" entry ends in the last cell of its partition, an "aft" entry after it: before the parent's last cell, where there is one and it is another
unfoldable pub ends_of : (m : ℕ) → (aft : Bool) → (L i : ℕ) → Cells
ends_of m false L i = cells m (last_cell m L i) (last_cell m L i + 1)
ends_of m true L i = cells m (last_cell m L i + 1) (cond (eqb L 0 || eqb (i % 2) 1) (2 ^ m) (last_cell m (L - 1) (i / 2)))

abbrev pub frame_of : (m : ℕ) → Half → (aft : Bool) → (L i : ℕ) → Frame
frame_of m h aft L i = record { starts = starts_of m h L i; ends = ends_of m aft L i }

pub record FrameAt (m : ℕ) (f : Frame) : Type 0 where
  pub starts_at : AtLevel m f.starts
  pub ends_at : AtLevel m f.ends

unfoldable pub stands_in : Scale → Frame → Trip → Bool
stands_in s f t = fits s t && (has_cell f.starts (bottom_cell s t.start) && has_cell f.ends (bottom_cell s t.end))
