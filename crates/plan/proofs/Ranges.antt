-- The cells of a plan at a level, and how small the numbers of their slots are.
use Prim.Native.Nat.{ℕ, ◌^◌, ◌≤◌, ◌<◌}
use native.Mathlib.Omega.{arith}
use lib.Pow.{pow_pos, pow_mono}
use Rattle.ruler.specs.Ruler.{deepest, cell_up}
use Rattle.ruler.proofs.CellLevels.{up_mono, up_lt}
use Rattle.layout.specs.Words.{partitions, partition_number, half_length}
use Rattle.plan.specs.declared.range.Kind.{Kind}
use Rattle.plan.specs.declared.range.Kind.TheVariants.{Starting, Ending, Crossing}
use Rattle.plan.specs.declared.range.Plan.{Plan}
use Rattle.plan.specs.Plan.{Ranged, original_slots, replica_slots, first_slot, slot_at}

pub few_slots : (k : Kind) → (original_slots k ≤ 2) × (replica_slots k ≤ 2)
few_slots Starting = (omega arith, omega arith)
few_slots Ending = (omega arith, omega arith)
few_slots Crossing = (omega arith, omega arith)

module _ {m : ℕ} {p : Plan} (r : Ranged m p) (L : ℕ) (deep : L ≤ m) where
  pub cells-ordered : cell_up m L p.low.1 ≤ cell_up m L p.high.1
  cells-ordered = up_mono m L p.low.1 p.high.1 r.ordered

  pub high_in : cell_up m L p.high.1 < 2 ^ L
  high_in = up_lt m L p.high.1 deep r.bounded

  pub low_in : cell_up m L p.low.1 < 2 ^ L
  low_in = let a = cells-ordered in let b = high_in in omega arith

first_slot_in : (L i : ℕ) → L ≤ deepest → i < 2 ^ L → first_slot L i < half_length deepest
unfolding first_slot partition_number half_length partitions
first_slot_in L i h l = omega (arith, pow_mono h, pow_pos L)

module _ (p : Plan) (r : Ranged p.low.0 p) (L : ℕ) (deep : L ≤ p.low.0) where
  low-slot_in : slot_at p.low L < half_length deepest
  low-slot_in = let d = r.deep in first_slot_in L _ (omega arith) (low_in r L deep)

  high-slot_in : slot_at p.high L < half_length deepest
  high-slot_in = let d = r.deep in rw r.high_level (first_slot_in L _ (omega arith) (high_in r L deep))

  pub slots_in : (slot_at p.low L < half_length deepest) × (slot_at p.high L < half_length deepest)
  slots_in = (low-slot_in, high-slot_in)
