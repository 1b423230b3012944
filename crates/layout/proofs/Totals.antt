-- The counts of the census added up: those of a level are its runs', and those of all levels are the entries of the halves.
use mathlib.Core.Path.{◌≡◌, refl, sym, ap, ◌∙◌}
use mathlib.Core.Bool.{true, false}
use mathlib.Core.List.{List}
use Prim.Native.Nat.{ℕ, zero, suc, ◌+◌, ◌-◌, ◌*◌, ◌^◌, ◌≤◌}
use native.Mathlib.Nat.{two-pow-succ}
use native.Mathlib.Numerals.{add-one}
use native.Mathlib.Omega.{arith}
use lib.ListN.{length, length-append}
use lib.Pow.{pow_pos}
use borrow.Author.Tests.{le-leb}
use Rattle.lists.specs.Lists.{joined, sum_to}
use Rattle.lists.proofs.Sums.{length-joined}
use Rattle.ruler.specs.Ruler.{Scale}
use Rattle.trip.specs.declared.Trip.{Trip}
use Rattle.layout.specs.declared.Half.{Half}
use Rattle.layout.specs.declared.Subdivision.{Subdivision}
use Rattle.layout.specs.Stored.{partitions_at, subdivision_of}
use Rattle.layout.specs.Words.{partitions, partition_number, slot_number, slot_trips, slot, entries_before, entries}
use Rattle.layout.specs.Answers.{level_count}
use Rattle.layout.proofs.ByDirectory.{slot_numbered, slots_apart, before_more}

-- the entries of the first n partitions of a level, in one subdivision
unfoldable pub first_runs : Scale → List Trip → (L : ℕ) → Subdivision → (n : ℕ) → ℕ
first_runs s ts L d n = length (joined (λ i. slot_trips s d L i ts) n)

pub count_runs : (s : Scale) (ts : List Trip) (L : ℕ) (d : Subdivision) → L ≤ s.m → level_count s ts L d ≡ first_runs s ts L d (2 ^ L)
unfolding level_count partitions_at first_runs
count_runs s ts L d deep = rw (le-leb L s.m deep)

-- a count is the lengths of the level's runs, added up
pub count-sum : (s : Scale) (ts : List Trip) (L : ℕ) (d : Subdivision) → L ≤ s.m → level_count s ts L d
    ≡ sum_to (λ i. length (slot_trips s d L i ts)) (2 ^ L)
unfolding first_runs
count-sum s ts L d deep = count_runs s ts L d deep ∙ length-joined (λ i. slot_trips s d L i ts) (2 ^ L)

-- "its "in" slot is 2p and its "aft" slot 2p + 1"
aft_next : (L i : ℕ) → slot_number L i true ≡ slot_number L i false + 1
unfolding slot_number
aft_next L i = omega arith

-- after the last partition of a level comes the first of the next
level_start : (L : ℕ) → slot_number L 0 false ≡ 2 * (2 ^ L - 1)
unfolding slot_number partition_number
level_start L = omega arith

level_end : (L : ℕ) → slot_number L (2 ^ L) false ≡ 2 * (2 ^ suc L - 1)
unfolding slot_number partition_number
level_end L = omega (arith, two-pow-succ L, pow_pos L)

module _ (s : Scale) (h : Half) (ts : List Trip) where
  -- the entries of a level in a half, "in" and "aft"
  unfoldable pub level_entries : (L : ℕ) → ℕ
  level_entries L = level_count s ts L (subdivision_of h false) + level_count s ts L (subdivision_of h true)

  -- the entries before the first slot of a level, and then those of its first n partitions
  partitions_passed : (L n : ℕ) → L ≤ s.m → n ≤ 2 ^ L
      → length (entries_before s h ts (slot_number L n false))
      ≡ length (entries_before s h ts (slot_number L 0 false))
      + (first_runs s ts L (subdivision_of h false) n + first_runs s ts L (subdivision_of h true) n)
  unfolding first_runs joined
  partitions_passed L zero deep l = omega arith
  partitions_passed L (suc n) deep l =
      let k = slot_number L n false in
      let even : length (slot s h ts k) ≡ length (slot_trips s (subdivision_of h false) L n ts) = ap length
      (slot_numbered s h ts L n deep (omega arith) false) in
      let odd : length (slot s h ts (k + 1)) ≡ length (slot_trips s (subdivision_of h true) L n ts) =
      ap length (ap (slot s h ts) (sym (aft_next L n)) ∙ slot_numbered s h ts L n deep (omega arith) true) in
      let next : slot_number L (suc n) false ≡ k + 1 + 1 = omega (arith, slots_apart L (suc n) false, slots_apart L n false) in
      rw (
        next,
        before_more s h ts (k + 1),
        before_more s h ts k,
        even,
        odd,
        partitions_passed L n deep (omega arith),
        length-append,
        length-append,
      ) (omega arith)

  -- the entries of the levels before L stand before the first slot of level L
  levels_passed : (L : ℕ) → L ≤ suc s.m → length (entries_before s h ts (2 * (2 ^ L - 1))) ≡ sum_to level_entries L
  unfolding sum_to entries_before joined level_entries
  levels_passed zero l = refl
  levels_passed (suc L) l =
      let deep : L ≤ s.m = omega arith in
      let ins = count_runs s ts L (subdivision_of h false) deep in
      let afts = count_runs s ts L (subdivision_of h true) deep in
      rw (← level_end L, partitions_passed L (2 ^ L) deep (omega arith), level_start L, levels_passed L (omega arith), ins, afts)

  -- the last word of a half is the total of its counts
  pub counts-total : sum_to level_entries (suc s.m) ≡ length (entries s h ts)
  unfolding entries partitions
  counts-total = rw add-one (sym (levels_passed (suc s.m) (omega arith)))
