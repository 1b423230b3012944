-- On the words of an index, what the directory says is the census and the run of the table.
use mathlib.Core.Path.{◌≡◌, refl, ap, ◌∙◌}
use mathlib.Core.Bool.{Bool, true, false, cond}
use mathlib.Core.List.{List}
use Prim.Native.Nat.{ℕ, zero, suc, ◌+◌, ◌-◌, ◌*◌, ◌^◌, ◌≤◌, ◌<◌}
use native.Mathlib.Omega.{arith}
use lib.Dec.{leb}
use lib.ListN.{length, get_or, take, drop, length-append}
use borrow.Author.Tests.{leb-true}
use Rattle.lists.specs.Lists.{joined}
use Rattle.lists.proofs.Upto.{up_to_ext}
use Rattle.ruler.specs.Ruler.{Scale, deepest}
use Rattle.trip.specs.declared.Trip.{Trip}
use Rattle.layout.specs.declared.Half.{Half}
use Rattle.layout.specs.declared.Half.TheVariants.{Originals, Replicas}
use Rattle.layout.specs.declared.Subdivision.{Subdivision}
use Rattle.layout.specs.declared.Subdivision.TheVariants.{OIn, OAft, RIn, RAft}
use Rattle.layout.specs.Stored.{partitions_at}
use Rattle.layout.specs.Words.{entry_words, words, partitions, half_length, slot_number, slot_trips, slot, Index}
use Rattle.layout.specs.Refusals.{table_of}
use Rattle.layout.specs.Answers.{half_of, is_aft, level_count, level_row, census, run_words, run_from}
use Rattle.layout.proofs.Subdivisions.{of_half_and_side}
use Rattle.layout.proofs.Rows.{words-length}
use Rattle.layout.proofs.Indexes.{Indexed}
use Rattle.layout.proofs.MostEntries.{entries_most}
use Rattle.layout.proofs.ByDirectory.{slot_numbered, slot-inside, slots_apart, before_more, before_le, LaidFrom, next_word, originals_laid, replicas_laid}
use Rattle.store.specs.Passes.{most_entries}
use Rattle.store.specs.Parts.{arena_of, part_words, PartThere}
use Rattle.store.proofs.Parts.{laid_slot-there, laid_slot}
use Rattle.view.specs.Directory.{half_from, slot_at, every_second, count_of, row_of, rows_of, Halves}

module _ (s : Scale) (x : Index) (w : Indexed s x) where
  -- the table of the index
  abbrev trips : List Trip
  trips = table_of s x

  abbrev dir : List ℕ
  dir = x.directory

  -- its halves
  laid : (h : Half) → LaidFrom s h trips dir (half_from s.m h) (arena_of h x.originals x.replicas)
  unfolding half_from
  laid Originals = originals_laid s x w
  laid Replicas = replicas_laid s x w

  -- both rise
  pub halves : s.m ≤ deepest → Halves s.m dir
  unfolding half_length
  halves deep = record {
    deep = deep;
    rising = λ h. record { inside = omega (arith, (laid h).inside); rises = λ k l. omega (arith, next_word (laid h) k (omega arith)) };
  }

  -- ---- the slot of a subdivision of partition i of level L

  module _ (L i : ℕ) (d : Subdivision) (deep : L ≤ s.m) (there : i < 2 ^ L) where
    slot_is : slot s (half_of d) trips (slot_number L i (is_aft d)) ≡ slot_trips s d L i trips
    slot_is = slot_numbered s (half_of d) trips L i deep there (is_aft d) ∙ ap (λ (c : Subdivision). slot_trips s c L i trips) (of_half_and_side d)

    inside : slot_number L i (is_aft d) < 2 * partitions s.m
    inside = slot-inside s.m L i (is_aft d) deep there

    -- the next word less its word is as many as the slot has
    pub slot-count : get_or dir (slot_at s.m L i d + 1) 0 - get_or dir (slot_at s.m L i d) 0 ≡ length (slot_trips s d L i trips)
    unfolding slot_at
    slot-count = omega (arith, next_word (laid (half_of d)) (slot_number L i (is_aft d)) inside, ap length slot_is)

    -- the run
    pub run-from_read : entry_words * get_or dir (slot_at s.m L i d) 0 ≡ run_from s trips L i d
    unfolding run_from slot_at
    run-from_read = ap (λ (n : ℕ). entry_words * n) ((laid (half_of d)).word (slot_number L i (is_aft d)) (omega (arith, inside)))

    run_read : part_words dir (arena_of (half_of d) x.originals x.replicas) (slot_at s.m L i d) (slot_at s.m L i d + 1)
        ≡ run_words s trips L i d
    unfolding run_words slot_at
    run_read = laid_slot (laid (half_of d)) (slot_number L i (is_aft d)) inside ∙ ap words slot_is

    pub slot-there : PartThere dir (arena_of (half_of d) x.originals x.replicas) (slot_at s.m L i d) (slot_at s.m L i d + 1)
    unfolding slot_at
    slot-there = laid_slot-there (laid (half_of d)) (slot_number L i (is_aft d)) inside

    pub run_length : entry_words * get_or dir (slot_at s.m L i d + 1) 0 - entry_words * get_or dir (slot_at s.m L i d) 0
        ≡ length (run_words s trips L i d)
    unfolding run_words
    run_length = omega (arith, slot-count, slot-there.rises, words-length (slot_trips s d L i trips))

    -- so the run is the part of the arena at its place
    pub run_inside : run_from s trips L i d + length (run_words s trips L i d) ≤ length (arena_of (half_of d) x.originals x.replicas)
    run_inside = omega (arith, run-from_read, run_length, slot-there.rises, slot-there.room)

    pub run_part : take (length (run_words s trips L i d)) (drop (run_from s trips L i d) (arena_of (half_of d) x.originals x.replicas))
        ≡ run_words s trips L i d
    unfolding part_words
    run_part = rw (← run_length, ← run-from_read) run_read

    -- a run ends within the most entries
    pub run-few : s.m ≤ deepest → run_from s trips L i d + length (run_words s trips L i d) ≤ entry_words * most_entries
    unfolding run_from run_words
    run-few no_deeper =
        let h = half_of d in
        let k = slot_number L i (is_aft d) in
        omega (
          arith,
          before_more s h trips k,
          ap length slot_is,
          words-length (slot_trips s d L i trips),
          before_le s h trips (k + 1) (omega (arith, inside)),
          entries_most s no_deeper trips w.table.few h,
        )

  -- ---- the census

  -- the differences of a level's words, added up, are the entries of its runs
  sum_read : (L : ℕ) (d : Subdivision) → L ≤ s.m → (n : ℕ) → n ≤ 2 ^ L
      → every_second dir (slot_at s.m L 0 d) n ≡ length (joined (λ i. slot_trips s d L i trips) n)
  unfolding every_second joined slot_at
  sum_read L d deep zero l = refl
  sum_read L d deep (suc n) l =
      let at : slot_at s.m L n d ≡ slot_at s.m L 0 d + 2 * n = omega (arith, slots_apart L n (is_aft d)) in
      let one = rw at at (slot-count L n d deep (omega arith)) in
      rw (length-append, sum_read L d deep n (omega arith), one)

  pub count_read : (L : ℕ) (d : Subdivision) → count_of dir s.m L d ≡ level_count s trips L d
  unfolding count_of level_count partitions_at
  count_read L d = go (leb L s.m) refl
    where
      go : (b : Bool) → leb L s.m ≡ b
          → cond b (every_second dir (slot_at s.m L 0 d) (2 ^ L)) 0 ≡ cond b (length (joined (λ i. slot_trips s d L i trips) (2 ^ L))) 0
      go true e = sum_read L d (leb-true L s.m e) (2 ^ L) (omega arith)
      go false e = refl

  pub row_read : (L : ℕ) → row_of dir s.m L ≡ level_row s trips L
  unfolding row_of level_row
  row_read L = rw (count_read L OIn, count_read L OAft, count_read L RIn, count_read L RAft)

  pub rows_read : rows_of dir s.m ≡ census s trips
  unfolding rows_of census
  rows_read = up_to_ext (row_of dir s.m) (level_row s trips) (suc deepest) (λ L l. row_read L)
