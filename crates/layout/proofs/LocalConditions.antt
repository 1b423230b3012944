-- The local conditions on words, and that together they are the definition's test of an index. Each half's words hold the lists of its
-- slots; each entry is a trip of the ruler that stands in its own slot, each slot is in strict order, no original's id stands twice, each
-- replica is one of the originals, and the entries are as many as the partitions that hold the originals, added up. Nothing is laid out anew.
use mathlib.Core.Path.{◌≡◌, sym, ap, ap₂, ◌∙◌}
use mathlib.Core.List.Memᴰ.{not-nil}
use mathlib.Core.List.{List, ◌++◌, Memᴰ as Mem}
use Prim.Native.Nat.{ℕ, ◌+◌, ◌-◌, ◌*◌, ◌≤◌, ◌<◌}
use native.Mathlib.Omega.{arith}
use lib.Dec.{T}
use lib.ListN.{length, take, drop, replicate, length-append, take-append-drop}
use lib.Seq.{take_at, drop_at}
use Rattle.lists.specs.Lists.{joined, up_to, padded, sum_over}
use Rattle.lists.proofs.Members.{In, of_joined, to_joined}
use Rattle.lists.proofs.Sorting.{Sorted, unique}
use Rattle.lists.proofs.Joined.{joined_ext}
use Rattle.lists.proofs.Sublists.{no_longer, as_long}
use Rattle.lists.proofs.Sums.{length-joined, sum_tight}
use Rattle.lists.proofs.Upto.{length-up_to, up_to_ext}
use Rattle.ruler.specs.Ruler.{Scale, most_trips}
use Rattle.ruler.proofs.Fair.{Fair}
use Rattle.trip.specs.declared.Trip.{Trip}
use Rattle.layout.specs.declared.Half.{Half}
use Rattle.layout.specs.declared.Half.TheVariants.{Originals, Replicas}
use Rattle.layout.specs.Words.{entry_words, words, order, partitions, half_length, directory_length, partitions_holding, subdivision_at, slot, entries_before, entries, directory_half, arena, Index, lengths_of, layout}
use Rattle.layout.specs.Refusals.{table_of, Fits}
use Rattle.layout.proofs.RowOrder.{Distinct, slot-order, slot_sorted}
use Rattle.layout.proofs.SlotMembers.{of_slot, to_slot, slot_once, in_slot}
use Rattle.layout.proofs.Rows.{words-length}
use Rattle.layout.proofs.Tables.{Table}
use Rattle.layout.proofs.Indexes.{Indexed, table_again, indexed}
use Rattle.layout.proofs.Counted.{slots_sum}

-- how many slots a half has
abbrev pub slots_of : Scale → ℕ
slots_of s = 2 * partitions s.m

-- ---- the conditions, as facts on the lists of the slots

-- one half: each trip is one of the ruler's and stands where it belongs, and each list is in order
pub record Standing (s : Scale) (h : Half) (f : ℕ → List Trip) : Type 0 where
  pub fits : (k : ℕ) → k < slots_of s → (t : Trip) → Mem t (f k) → Fits s t
  pub right : (k : ℕ) → k < slots_of s → (t : Trip) → Mem t (f k) → T (in_slot s h k t)
  pub sorted : (k : ℕ) → k < slots_of s → Sorted (order (subdivision_at h k)) (f k)

-- the originals o and the replicas p
pub record Proper (s : Scale) (o p : ℕ → List Trip) : Type 0 where
  pub originals : Standing s Originals o
  pub replicas : Standing s Replicas p
  pub few : length (joined o (slots_of s)) ≤ most_trips
  pub distinct : Distinct (joined o (slots_of s))
  pub known : (k : ℕ) → k < slots_of s → In (p k) (joined o (slots_of s))
  pub total : length (joined o (slots_of s)) + length (joined p (slots_of s)) ≡ sum_over (partitions_holding s) (joined o (slots_of s))

-- ---- lists that pass are the slots of the table of their originals

module _ (s : Scale) (fair : Fair s) (o p : ℕ → List Trip) (w : Proper s o p) where
  abbrev table : List Trip
  table = joined o (slots_of s)

  pub all_fit : (t : Trip) → Mem t (joined o (slots_of s)) → Fits s t
  all_fit t m = let v = of_joined o (slots_of s) t m in w.originals.fits v.0 v.1 t v.2

  original_in : (k : ℕ) → k < slots_of s → In (o k) (slot s Originals table k)
  original_in k h t m = to_slot s Originals _ k t (to_joined o (slots_of s) k t h m) (w.originals.right k h t m)

  -- a trip of the table belongs in no other slot than its own
  in_original : (k : ℕ) → k < slots_of s → In (slot s Originals table k) (o k)
  in_original k h t m =
      let t-in : Mem t table = (of_slot s Originals table k t m).0 in
      let v = of_joined o (slots_of s) t t-in in
      let e : v.0 ≡ k = slot_once s fair table t (all_fit t t-in) v.0 k v.1 h (original_in v.0 v.1 t v.2) m in
      rw e at v.2

  pub originals_are : (k : ℕ) → k < slots_of s → o k ≡ slot s Originals (joined o (slots_of s)) k
  originals_are k h =
      unique (slot-order (subdivision_at Originals k)) (w.originals.sorted k h) (slot_sorted s Originals table k w.distinct) (original_in k h)
      (in_original k h)

  -- a slot of replicas has members of the table's slot; it is no longer; and all together are as many, so none is shorter
  replica_in : (k : ℕ) → k < slots_of s → In (p k) (slot s Replicas table k)
  replica_in k h t m = to_slot s Replicas _ k t (w.known k h t m) (w.replicas.right k h t m)

  replica_long : (k : ℕ) → k < slots_of s → length (slot s Replicas table k) ≤ length (p k)
  replica_long =
      let n = slots_of s in
      let same : joined o n ≡ joined (slot s Originals table) n = joined_ext o (slot s Originals table) n originals_are in
      let many = ap length same ∙ length-joined (slot s Originals table) n in
      sum_tight (λ k. length (p k)) (λ k. length (slot s Replicas table k)) n
      (λ k h. no_longer (slot-order (subdivision_at Replicas k)) (w.replicas.sorted k h) (slot_sorted s Replicas table k w.distinct)
      (replica_in k h))
      (omega (arith, w.total, slots_sum s table, length-joined p n))

  pub replicas_are : (k : ℕ) → k < slots_of s → p k ≡ slot s Replicas (joined o (slots_of s)) k
  replicas_are k h =
      as_long (slot-order (subdivision_at Replicas k)) (w.replicas.sorted k h) (slot_sorted s Replicas table k w.distinct) (replica_in k h)
      (replica_long k h)

-- ---- the slots of an accepted table pass

module _ (s : Scale) (ts : List Trip) (few : length ts ≤ most_trips) (fits : (t : Trip) → Mem t ts → Fits s t) (d : Distinct ts)
    (self : entries s Originals ts ≡ ts) where
  slot_standing : (h : Half) → Standing s h (slot s h ts)
  slot_standing h = record {
    fits = λ k l t m. fits t (of_slot s h ts k t m).0;
    right = λ k l t m. (of_slot s h ts k t m).1;
    sorted = λ k l. slot_sorted s h ts k d;
  }

  back_again : joined (slot s Originals ts) (slots_of s) ≡ ts
  unfolding entries entries_before
  back_again = self

  slots_proper : Proper s (slot s Originals ts) (slot s Replicas ts)
  slots_proper =
      let n = slots_of s in
      record {
        originals = slot_standing Originals;
        replicas = slot_standing Replicas;
        few = rw back_again few;
        distinct = rw back_again d;
        known = λ k l t m. rw back_again (of_slot s Replicas ts k t m).0;
        total = ap₂ ◌+◌ (length-joined (slot s Originals ts) n) (length-joined (slot s Replicas ts) n) ∙ slots_sum s ts
            ∙ ap (sum_over (partitions_holding s)) (sym back_again);
      }

-- ---- the words of one half

-- the words hold the lists f 0 .. f (n - 1): the word of a slot is the number of entries before it, the last word their total; the
-- entries stand one after another, and zeros after the last
pub record Laid (dir arena : List ℕ) (f : ℕ → List Trip) (n : ℕ) : Type 0 where
  pub counts : dir ≡ up_to (λ k. length (joined f k)) (n + 1)
  pub stored : arena ≡ padded (length arena) (words (joined f n))

laid_ext : (dir ar : List ℕ) (f g : ℕ → List Trip) (n : ℕ) → ((k : ℕ) → k < n → f k ≡ g k) → Laid dir ar f n → Laid dir ar g n
laid_ext dir ar f g n e w = record {
  counts = w.counts ∙ up_to_ext _ _ (n + 1) (λ k l. ap length (joined_ext f g k (λ j i. e j (omega arith))));
  stored = rw (joined_ext f g n e) at w.stored;
}

pub laid_room : (dir ar : List ℕ) (f : ℕ → List Trip) (n : ℕ) → Laid dir ar f n → entry_words * length (joined f n) ≤ length ar
unfolding padded
laid_room dir ar f n w =
    let ws = words (joined f n) in
    omega (arith, ap length w.stored, length-append ws (replicate (length ar - length ws) 0), words-length (joined f n))

-- ---- both halves

-- the two halves of a directory
unfoldable pub originals_half : Scale → (directory : List ℕ) → List ℕ
originals_half s d = take (half_length s.m) d

unfoldable pub replicas_half : Scale → (directory : List ℕ) → List ℕ
replicas_half s d = drop (half_length s.m) d

-- the words of an index hold the lists o and p, which pass
pub record Local (s : Scale) (x : Index) (o p : ℕ → List Trip) : Type 0 where
  pub in_originals : Laid (originals_half s x.directory) x.originals o (slots_of s)
  pub in_replicas : Laid (replicas_half s x.directory) x.replicas p (slots_of s)
  pub proper : Proper s o p

module _ (s : Scale) (x : Index) (ts : List Trip) where
  laid_layout : Laid (originals_half s x.directory) x.originals (slot s Originals ts) (slots_of s)
      → Laid (replicas_half s x.directory) x.replicas (slot s Replicas ts) (slots_of s) → x ≡ layout s ts (lengths_of x)
  unfolding originals_half replicas_half half_length layout directory_half arena entries entries_before lengths_of
  laid_layout a b =
      let d = sym (take-append-drop (half_length s.m) x.directory) ∙ ap₂ ◌++◌ a.counts b.counts in
      let o = a.stored in
      let r = b.stored in
      λ i. record { directory = d i; originals = o i; replicas = r i }

  layout_laid : x ≡ layout s ts (lengths_of x)
      → Laid (originals_half s x.directory) x.originals (slot s Originals ts) (slots_of s)
      × Laid (replicas_half s x.directory) x.replicas (slot s Replicas ts) (slots_of s)
  unfolding originals_half replicas_half half_length layout directory_half arena entries entries_before lengths_of
  layout_laid e =
      let n = slots_of s + 1 in
      let f : ℕ → ℕ = λ k. length (joined (slot s Originals ts) k) in
      let g : ℕ → ℕ = λ k. length (joined (slot s Replicas ts) k) in (
        record {
          counts = ap (λ (y : Index). take n y.directory) e ∙ take_at (up_to f n) (up_to g n) n (length-up_to f n);
          stored = ap (λ (y : Index). y.originals) e;
        },
        record {
          counts = ap (λ (y : Index). drop n y.directory) e ∙ drop_at (up_to f n) (up_to g n) n (length-up_to f n);
          stored = ap (λ (y : Index). y.replicas) e;
        },
      )

-- words that pass are an index
pub local_index : (s : Scale) → Fair s → (x : Index) (o p : ℕ → List Trip) → T s.good → length x.directory ≡ directory_length s.m
    → Local s x o p → Indexed s x
unfolding lengths_of entries entries_before
local_index s fair x o p good long w =
    let ts = joined o (slots_of s) in
    let c = w.proper in
    let a = laid_ext _ _ o (slot s Originals ts) (slots_of s) (originals_are s fair o p c) w.in_originals in
    let b = laid_ext _ _ p (slot s Replicas ts) (slots_of s) (replicas_are s fair o p c) w.in_replicas in
    let accepted : Table s ts (lengths_of x) = record {
      good = good;
      few = c.few;
      directory = long;
      rows_ok = record {
        fits = all_fit s fair o p c;
        distinct = c.distinct;
        fresh = λ t u m q. absurd (not-nil q);
      };
      room = record { for_originals = laid_room _ _ _ (slots_of s) a; for_replicas = laid_room _ _ _ (slots_of s) b };
    } in
    indexed s fair ts x accepted (laid_layout s x ts a b)

-- the words of an index hold the slots of its table, which pass
pub index_local : (s : Scale) → Fair s → (x : Index) → Indexed s x → Local s x (slot s Originals (table_of s x)) (slot s Replicas (table_of s x))
index_local s fair x h =
    let ts = table_of s x in
    let t = h.table in
    let w = layout_laid s x ts h.words_are in
    record {
      in_originals = w.0;
      in_replicas = w.1;
      proper = slots_proper s ts t.few t.rows_ok.fits t.rows_ok.distinct (sym (table_again s fair ts x t h.words_are));
    }
