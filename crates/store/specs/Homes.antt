-- The slot of a trip's original entry.
use Rattle.std.specs.Prelude.{cond, not, ℕ, zero, suc}
use Rattle.ruler.specs.Ruler.{Scale, cell_up}
use Rattle.trip.specs.declared.Trip.{Trip}
use Rattle.layout.specs.Stored.{within, is_in}
use Rattle.layout.specs.Words.{slot_number}

-- the level of the original entry, of the levels 0 .. L: the highest on which the partition of the first cell lies in a..b
unfoldable pub home_level : (m a b L : ℕ) → ℕ
home_level m a b zero = zero
home_level m a b (suc L) = cond (within m L (cell_up m L a) a b) (home_level m a b L) (suc L)

-- its slot, where it is at level L; and its slot
unfoldable pub home_at : Scale → (L : ℕ) → Trip → ℕ
home_at s L t = let i = cell_up s.m L (s.cell t.start) in slot_number L i (not (is_in s L i t))

unfoldable pub home : Scale → Trip → ℕ
home s t = home_at s (home_level s.m (s.cell t.start) (s.cell t.end) s.m) t
