-- The local conditions on words: tests that lay nothing out anew, and that pass exactly where `is_index` does (the law `locally-index`).
use Rattle.std.specs.Prelude.{Bool, ◌&&◌, List, ℕ, ◌+◌, ◌-◌, ◌*◌, ◌/◌, ◌%◌, ◌^◌, leb, eqb, length, get_or, take, drop}
use Rattle.lists.specs.Lists.{sum_over}
use Rattle.ruler.specs.Ruler.{Scale, most_trips}
use Rattle.trip.specs.declared.Trip.{Trip}
use Rattle.trip.specs.Trips.{same_trip}
use Rattle.layout.specs.declared.Half.{Half}
use Rattle.layout.specs.declared.Half.TheVariants.{Originals, Replicas}
use Rattle.layout.specs.declared.Subdivision.{Subdivision}
use Rattle.layout.specs.Stored.{belongs, subdivision_of}
use Rattle.layout.specs.Words.{entry_words, rows, order, level_of, place_of, partitions_holding}
use Rattle.layout.specs.Refusals.{fits}
use Rattle.store.specs.Homes.{home}
use Rattle.store.specs.Halves.{total}
use Rattle.store.specs.Parts.{part_words}
use Rattle.store.specs.Ids.{ids_differ}
use Rattle.verify.specs.Passing.{below, each, some, in_row, rising, blank}

-- ---- the words of one half

-- the counts start at 0, never fall and fit the arena, and the words after the last entry are 0
unfoldable pub half_ok : (directory arena : List ℕ) → Bool
half_ok dir arena =
    eqb (get_or dir 0 0) 0
    && (rising (get_or dir 0 0) (drop 1 dir)
    && (leb (entry_words * total dir) (length arena)
    && blank (drop (entry_words * total dir) arena)))

-- the trips of slot k, and of all slots
unfoldable pub slot_at : (directory arena : List ℕ) → (k : ℕ) → List Trip
slot_at dir arena k = rows (part_words dir arena k (k + 1))

unfoldable pub trips_of : (directory arena : List ℕ) → List Trip
trips_of dir arena = rows (take (entry_words * total dir) arena)

-- ---- the entries of a slot

-- it may stand in this subdivision of partition i of level L
unfoldable pub stands_at : Scale → Subdivision → (L i : ℕ) → Trip → Bool
stands_at s d L i t = fits s t && belongs s d L i t

-- the trips of the half's slot k stand there, in their order
unfoldable pub slot_ok : Scale → Half → (k : ℕ) → List Trip → Bool
slot_ok s h k l =
    let d = subdivision_of h (eqb (k % 2) 1) in
    in_row (stands_at s d (level_of s.m (k / 2)) (place_of s.m (k / 2))) (order d) l

-- the slots of level L: so many from its first on; and all slots
abbrev pub first_slot : (L : ℕ) → ℕ
first_slot L = 2 * (2 ^ L - 1)

unfoldable pub level_ok : Scale → Half → (L : ℕ) → (directory arena : List ℕ) → Bool
level_ok s h L dir arena = below (λ j. slot_ok s h (first_slot L + j) (slot_at dir arena (first_slot L + j))) (2 * 2 ^ L)

unfoldable pub slots_ok : Scale → Half → (directory arena : List ℕ) → Bool
slots_ok s h dir arena = below (λ k. slot_ok s h k (slot_at dir arena k)) (length dir - 1)

-- ---- a replica's original

-- the original of a replica stands in its slot
unfoldable pub is_known : Scale → (directory originals : List ℕ) → Trip → Bool
is_known s dir arena t = fits s t && some (same_trip t) (slot_at dir arena (home s t))

-- ---- all

-- n is the number of partitions that hold the trips
unfoldable pub counts_to : Scale → (n : ℕ) → List Trip → Bool
counts_to s n ts = each (fits s) ts && eqb n (sum_over (partitions_holding s) ts)

-- the tests over the words of both halves, over their slots, and over all trips; o and r are the halves of the directory
unfoldable pub halves_ok : (o originals r replicas : List ℕ) → Bool
halves_ok o originals r replicas = half_ok o originals && half_ok r replicas

unfoldable pub all_slots_ok : Scale → (o originals r replicas : List ℕ) → Bool
all_slots_ok s o originals r replicas =
    leb (total o) most_trips && (slots_ok s Originals o originals && slots_ok s Replicas r replicas)

unfoldable pub trips_ok : Scale → (o originals r replicas : List ℕ) → Bool
trips_ok s o originals r replicas =
    ids_differ (trips_of o originals)
    && (each (is_known s o originals) (trips_of r replicas)
    && counts_to s (total o + total r) (trips_of o originals))

unfoldable pub locally : Scale → (o originals r replicas : List ℕ) → Bool
locally s o originals r replicas =
    halves_ok o originals r replicas && (all_slots_ok s o originals r replicas && trips_ok s o originals r replicas)
