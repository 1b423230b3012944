-- An index read by its directory: the slot of a partition's side, the words of a half's slots, and the entries of slots as the part of the
-- arena between two words.
use mathlib.Core.Path.{◌≡◌, sym, ap, ap₂, ◌∙◌}
use mathlib.Core.Bool.{Bool, true, false}
use mathlib.Core.List.{List, ◌++◌}
use Prim.Native.Nat.{ℕ, ◌+◌, ◌-◌, ◌*◌, ◌/◌, ◌%◌, ◌^◌, ◌≤◌, ◌<◌}
use native.Mathlib.Omega.{arith}
use lib.Dec.{eqb}
use lib.ListN.{length, get_or, take, drop, get_or-append, length-append}
use lib.Seq.{get_or-append-add}
use Rattle.lists.specs.Lists.{joined, padded}
use Rattle.lists.proofs.Joined.{joined-add, length_more}
use Rattle.ruler.specs.Ruler.{Scale}
use Rattle.trip.specs.declared.Trip.{Trip}
use Rattle.layout.specs.declared.Half.{Half}
use Rattle.layout.specs.declared.Half.TheVariants.{Originals, Replicas}
use Rattle.layout.specs.Stored.{subdivision_of}
use Rattle.layout.specs.Words.{entry_words, words, partitions, half_length, directory_length, partition_number, slot_number, slot_trips, slot, entries_before, entries, directory_half, arena, Index, lengths_of, layout}
use Rattle.layout.specs.Refusals.{table_of}
use Rattle.layout.proofs.Numbers.{level_number, place_number, number_lt}
use Rattle.layout.proofs.Rows.{words-length, words_le}
use Rattle.layout.proofs.RowParts.{words-joined}
use Rattle.layout.proofs.Indexes.{directory_half-length, half_word, Indexed}

-- ---- the slots of a level

module _ (s : Scale) (h : Half) (ts : List Trip) (L i : ℕ) (deep : L ≤ s.m) where
  -- slot q from the "in" slot of partition i on is one of partition i + q / 2, and an "aft" slot where q is odd
  pub slot-from : (q : ℕ) → i + q / 2 < 2 ^ L → slot s h ts (2 * partition_number L i + q)
      ≡ slot_trips s (subdivision_of h (eqb (q % 2) 1)) L (i + q / 2) ts
  unfolding slot partition_number
  slot-from q there =
      let side : (2 * (2 ^ L - 1 + i) + q) % 2 ≡ q % 2 = omega arith in
      let half : (2 * (2 ^ L - 1 + i) + q) / 2 ≡ 2 ^ L - 1 + (i + q / 2) = omega arith in
      rw (side, half, level_number s.m L (i + q / 2) deep there, place_number s.m L (i + q / 2) deep there)

  -- the slot of a side of partition i
  pub slot_numbered : i < 2 ^ L → (aft : Bool) → slot s h ts (slot_number L i aft) ≡ slot_trips s (subdivision_of h aft) L i ts
  unfolding slot_number
  slot_numbered there false = let e : i + 0 / 2 ≡ i = omega arith in rw e at (slot-from 0 (omega arith))
  slot_numbered there true = let e : i + 1 / 2 ≡ i = omega arith in rw e at (slot-from 1 (omega arith))

pub slot-inside : (m L i : ℕ) (aft : Bool) → L ≤ m → i < 2 ^ L → slot_number L i aft < 2 * partitions m
unfolding slot_number
slot-inside m L i false deep there = omega (arith, number_lt m L i deep there)
slot-inside m L i true deep there = omega (arith, number_lt m L i deep there)

-- the slots of the same side of the partitions of a level stand two apart
pub slots_apart : (L i : ℕ) (aft : Bool) → slot_number L i aft ≡ slot_number L 0 aft + 2 * i
unfolding slot_number partition_number
slots_apart L i false = omega arith
slots_apart L i true = omega arith

-- ---- the entries before a slot and those of the slots from it on

module _ (s : Scale) (h : Half) (ts : List Trip) where
  before-add : (j c : ℕ) → length (entries_before s h ts (j + c)) ≡ length (entries_before s h ts j) + length (joined (λ i. slot s h ts (j + i)) c)
  unfolding entries_before
  before-add j c = ap length (joined-add (slot s h ts) j c) ∙ length-append (joined (slot s h ts) j) (joined (λ i. slot s h ts (j + i)) c)

  pub before_more : (k : ℕ) → length (entries_before s h ts (k + 1)) ≡ length (entries_before s h ts k) + length (slot s h ts k)
  unfolding entries_before
  before_more = length_more (slot s h ts)

  -- no more than all
  pub before_le : (k : ℕ) → k ≤ 2 * partitions s.m → length (entries_before s h ts k) ≤ length (entries s h ts)
  unfolding entries
  before_le k l =
      let r = 2 * partitions s.m - k in
      let e : 2 * partitions s.m ≡ k + r = omega arith in
      rw e (omega (arith, before-add k r))

-- ---- a half of the directory, from the word `base` on, with its arena

pub record LaidFrom (s : Scale) (h : Half) (ts : List Trip) (d : List ℕ) (base : ℕ) (l : List ℕ) : Type 0 where
  pub word : (k : ℕ) → k ≤ 2 * partitions s.m → get_or d (base + k) 0 ≡ length (entries_before s h ts k)
  pub inside : base + 2 * partitions s.m < length d
  pub zeros : List ℕ
  pub stored : l ≡ words (entries s h ts) ++ zeros

module _ {s : Scale} {h : Half} {ts : List Trip} {d : List ℕ} {base : ℕ} {l : List ℕ} (w : LaidFrom s h ts d base l) where
  -- the slots j .. j + c - 1: between the word of the first and the word after the last, which is no less, stand their entries
  module _ (j c : ℕ) (in_half_lem : j + c ≤ 2 * partitions s.m) where
    pub slots_rise : get_or d (base + j) 0 ≤ get_or d (base + (j + c)) 0
    slots_rise = omega (arith, w.word j (omega arith), w.word (j + c) in_half_lem, before-add s h ts j c)

    pub slots_room : entry_words * get_or d (base + (j + c)) 0 ≤ length l
    slots_room =
        rw (w.word (j + c) in_half_lem, w.stored, length-append)
        (omega (arith, words_le (before_le s h ts (j + c) in_half_lem), words-length (entries s h ts)))

    pub slots_part : take (entry_words * get_or d (base + (j + c)) 0 - entry_words * get_or d (base + j) 0) (drop (entry_words * get_or d (base + j) 0) l)
        ≡ words (joined (λ i. slot s h ts (j + i)) c)
    unfolding entries_before entries
    slots_part =
        rw (w.word j (omega arith), w.word (j + c) in_half_lem, w.stored) (words-joined (slot s h ts) (2 * partitions s.m) j c w.zeros in_half_lem)

  -- one slot
  module _ (k : ℕ) (in_half_lem : k < 2 * partitions s.m) where
    next : base + k + 1 ≡ base + (k + 1)
    next = omega arith

    pub next_word : get_or d (base + k + 1) 0 ≡ get_or d (base + k) 0 + length (slot s h ts k)
    next_word = rw (next, w.word (k + 1) (omega arith), w.word k (omega arith)) (before_more s h ts k)

-- ---- an index

module _ (s : Scale) (x : Index) (w : Indexed s x) where
  pub directory_are : x.directory ≡ directory_half s Originals (table_of s x) ++ directory_half s Replicas (table_of s x)
  unfolding layout
  directory_are = ap (λ (y : Index). y.directory) w.words_are

  pub originals_are : x.originals ≡ arena s Originals (table_of s x) (length x.originals)
  unfolding layout lengths_of
  originals_are = ap (λ (y : Index). y.originals) w.words_are

  pub replicas_are : x.replicas ≡ arena s Replicas (table_of s x) (length x.replicas)
  unfolding layout lengths_of
  replicas_are = ap (λ (y : Index). y.replicas) w.words_are

  pub directory_long : length x.directory ≡ directory_length s.m
  unfolding lengths_of
  directory_long = w.table.directory

  -- its two halves
  pub originals_laid : LaidFrom s Originals (table_of s x) x.directory 0 x.originals
  unfolding arena padded half_length directory_length
  originals_laid =
      let o = directory_half s Originals (table_of s x) in
      let r = directory_half s Replicas (table_of s x) in
      record {
        word = λ k l.
            let first : 0 + k ≡ k = omega arith in
            ap₂ (λ (d : List ℕ) (i : ℕ). get_or d i 0) directory_are first ∙ get_or-append o r 0 k (rw directory_half-length (omega arith))
            ∙ half_word s Originals (table_of s x) k l;
        inside = omega (arith, directory_long);
        zeros = _;
        stored = originals_are;
      }

  pub replicas_laid : LaidFrom s Replicas (table_of s x) x.directory (half_length s.m) x.replicas
  unfolding arena padded half_length directory_length
  replicas_laid =
      let o = directory_half s Originals (table_of s x) in
      let r = directory_half s Replicas (table_of s x) in
      record {
        word = λ k l.
            ap₂ (λ (d : List ℕ) (n : ℕ). get_or d (n + k) 0) directory_are (sym (directory_half-length s Originals (table_of s x)))
            ∙ get_or-append-add o r k 0 ∙ half_word s Replicas (table_of s x) k l;
        inside = omega (arith, directory_long);
        zeros = _;
        stored = replicas_are;
      }
