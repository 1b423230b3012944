-- The entries of both halves are as many as the partitions that hold the trips, added up.
use mathlib.Core.Path.{◌≡◌, refl, ap₂, ◌∙◌}
use mathlib.Core.Bool.{Bool, true, false, ◌&&◌}
use mathlib.Core.List.{List}
use Prim.Native.Nat.{ℕ, zero, suc, ◌+◌, ◌*◌, ◌/◌, ◌%◌}
use native.Mathlib.Omega.{arith}
use lib.ListN.{length}
use Rattle.lists.specs.Lists.{one_more, count, sum_to, sum_over}
use Rattle.lists.proofs.Members.{length-sort}
use Rattle.lists.proofs.Sums.{length-joined, sum-over-add, exchange, one_more_lem, pair_of, count_pairs}
use Rattle.ruler.specs.Ruler.{Scale}
use Rattle.trip.specs.declared.Trip.{Trip}
use Rattle.layout.specs.declared.Half.{Half}
use Rattle.layout.specs.declared.Half.TheVariants.{Originals, Replicas}
use Rattle.layout.specs.Stored.{holds_trip, is_original, is_in, subdivision_of, is_of, belongs}
use Rattle.layout.specs.Words.{partitions, level_of, place_of, partitions_holding, slot_trips, slot, entries_before, entries}
use Rattle.layout.proofs.SlotMembers.{in_slot}

-- ---- the four slots of a partition

-- one entry in a partition that holds the trip, and none in another
four_slots : (h o e : Bool)
    → one_more (h && is_of (subdivision_of Originals true) o e) (one_more (h && is_of (subdivision_of Originals false) o e) 0)
    + one_more (h && is_of (subdivision_of Replicas true) o e) (one_more (h && is_of (subdivision_of Replicas false) o e) 0)
    ≡ one_more h 0
unfolding is_of subdivision_of
four_slots true true true = refl
four_slots true true false = refl
four_slots true false true = refl
four_slots true false false = refl
four_slots false o e = refl

-- two halves' slots, counted partition after partition
by_partition : (f g h : ℕ → Bool) → ((p : ℕ) → pair_of f p + pair_of g p ≡ one_more (h p) 0) → (n : ℕ) → count f (2 * n) + count g (2 * n) ≡ count h n
unfolding count
by_partition f g h e zero = refl
by_partition f g h e (suc n) = omega (arith, e n, by_partition f g h e n, count_pairs f n, count_pairs g n, one_more_lem (h n) (count h n))

-- partition number p holds the trip
abbrev held_by : Scale → Trip → (p : ℕ) → Bool
held_by s t p = holds_trip s (level_of s.m p) (place_of s.m p) t

slots_of_lem : (s : Scale) (t : Trip) (n : ℕ) → count (λ k. in_slot s Originals k t) (2 * n) + count (λ k. in_slot s Replicas k t) (2 * n)
    ≡ count (held_by s t) n
unfolding belongs pair_of
slots_of_lem s t =
    by_partition (λ k. in_slot s Originals k t) (λ k. in_slot s Replicas k t) (held_by s t) (λ p.
    let a : suc (2 * p) / 2 ≡ p = omega arith in
    let b : 2 * p / 2 ≡ p = omega arith in
    let c : suc (2 * p) % 2 ≡ 1 = omega arith in
    let d : 2 * p % 2 ≡ 0 = omega arith in
    let L = level_of s.m p in
    let i = place_of s.m p in
    rw (a, b, c, d) (four_slots (holds_trip s L i t) (is_original s L i t) (is_in s L i t)))

-- ---- all slots

half_sum : (s : Scale) (h : Half) (ts : List Trip) (n : ℕ) → sum_to (λ k. length (slot s h ts k)) n ≡ sum_over (λ t. count (λ k. in_slot s h k t) n) ts
unfolding slot slot_trips
half_sum s h ts n = simp length-sort (exchange (in_slot s h) ts n)

-- the lengths of the slots of both halves, added up
pub slots_sum : (s : Scale) (ts : List Trip)
    → sum_to (λ k. length (slot s Originals ts k)) (2 * partitions s.m) + sum_to (λ k. length (slot s Replicas ts k)) (2 * partitions s.m)
    ≡ sum_over (partitions_holding s) ts
unfolding partitions_holding
slots_sum s ts =
    let n = partitions s.m in
    let o : Trip → ℕ = λ t. count (λ k. in_slot s Originals k t) (2 * n) in
    let r : Trip → ℕ = λ t. count (λ k. in_slot s Replicas k t) (2 * n) in
    rw (half_sum s Originals ts (2 * n), half_sum s Replicas ts (2 * n)) (sum-over-add o r (partitions_holding s) (λ t. slots_of_lem s t n) ts)

pub all_entries : (s : Scale) (ts : List Trip) → length (entries s Originals ts) + length (entries s Replicas ts) ≡ sum_over (partitions_holding s) ts
unfolding entries entries_before
all_entries s ts =
    let n = 2 * partitions s.m in
    ap₂ ◌+◌ (length-joined (slot s Originals ts) n) (length-joined (slot s Replicas ts) n) ∙ slots_sum s ts
