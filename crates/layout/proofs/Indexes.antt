-- Refusal 8: the computed test `is_index` passes exactly on the indexes of the tables that build accepts, and the trips read off such an
-- index are the table's.
use mathlib.Core.Path.{◌≡◌, sym, ap, subst, ◌∙◌}
use mathlib.Core.Bool.{◌&&◌}
use mathlib.Core.List.Memᴰ.{not-nil}
use mathlib.Core.List.{List, ◌++◌}
use Prim.Native.Nat.{ℕ, ◌+◌, ◌*◌, ◌≤◌}
use native.Mathlib.Omega.{arith}
use lib.Dec.{T}
use lib.ListN.{length, get_or, get_or-append, length-append}
use Rattle.lists.specs.Lists.{same, padded}
use Rattle.lists.proofs.Tests.{of_and, to_and}
use Rattle.lists.proofs.Members.{In}
use Rattle.lists.proofs.Padded.{padded-length}
use Rattle.lists.proofs.Same.{same_eq, same_refl}
use Rattle.lists.proofs.Upto.{length-up_to, get_or_up_to}
use Rattle.ruler.specs.declared.Numbers.{Numbers}
use Rattle.ruler.specs.Ruler.{Scale, scale_of}
use Rattle.ruler.proofs.Fair.{Fair, scale-good, fair}
use Rattle.trip.specs.declared.Trip.{Trip}
use Rattle.layout.specs.declared.Half.{Half}
use Rattle.layout.specs.declared.Half.TheVariants.{Originals, Replicas}
use Rattle.layout.specs.Words.{words, rows, partitions, half_length, directory_length, entries_before, entries, directory_half, arena, Index, Lengths, lengths_of, layout}
use Rattle.layout.specs.Refusals.{is_accepted, build_outcome, IndexOf, IndexOfSome, table_of, same_index, gives, is_index}
use Rattle.layout.proofs.Numbers.{halves-length}
use Rattle.layout.proofs.RowOrder.{Distinct, layout-same, entries-same, length-same}
use Rattle.layout.proofs.SlotMembers.{of_originals_lem, to_originals, originals_distinct}
use Rattle.layout.proofs.Rows.{rows_words, rows-front, words-length}
use Rattle.layout.proofs.Chains.{Room, of_accepted}
use Rattle.layout.proofs.Tables.{Table, of_build, to_build}

-- ---- the lengths of a layout

pub directory_half-length : (s : Scale) (h : Half) (ts : List Trip) → length (directory_half s h ts) ≡ half_length s.m
unfolding directory_half
directory_half-length s h ts = length-up_to _ (half_length s.m)

-- a layout has the lengths asked for, where its entries have room and the directory's length is the ruler's
pub layout-lengths : (s : Scale) (ts : List Trip) (n : Lengths) → n.directory ≡ directory_length s.m → Room s ts n → lengths_of (layout s ts n) ≡ n
unfolding lengths_of layout arena
layout-lengths s ts n d r =
    let o = directory_half s Originals ts in
    let q = directory_half s Replicas ts in
    let dl : length (o ++ q) ≡ n.directory = length-append o q ∙ rw (directory_half-length, directory_half-length) (halves-length s.m) ∙ sym d in
    let ol = padded-length n.originals (words (entries s Originals ts)) (rw words-length r.for_originals) in
    let rl = padded-length n.replicas (words (entries s Replicas ts)) (rw words-length r.for_replicas) in
    λ i. record { directory = dl i; originals = ol i; replicas = rl i }

-- ---- the table that a layout shows

-- "The word of a slot is the number of entries before it; the last word of a half is that half's total."
pub half_word : (s : Scale) (h : Half) (ts : List Trip) (k : ℕ) → k ≤ 2 * partitions s.m → get_or (directory_half s h ts) k 0
    ≡ length (entries_before s h ts k)
unfolding directory_half half_length
half_word s h ts k l = get_or_up_to (λ j. length (entries_before s h ts j)) (2 * partitions s.m + 1) k 0 (omega arith)

pub last_word : (s : Scale) (h : Half) (ts : List Trip) → get_or (directory_half s h ts) (2 * partitions s.m) 0 ≡ length (entries s h ts)
unfolding entries
last_word s h ts = half_word s h ts (2 * partitions s.m) (omega arith)

pub table_of_layout : (s : Scale) (ts : List Trip) (n : Lengths) → table_of s (layout s ts n) ≡ entries s Originals ts
unfolding table_of layout arena padded half_length
table_of_layout s ts n =
    let o = directory_half s Originals ts in
    let last = get_or-append o (directory_half s Replicas ts) 0 (2 * partitions s.m) (rw directory_half-length (omega arith))
    ∙ last_word s Originals ts in
    rw last (rows-front (entries s Originals ts) _)

-- ---- an accepted table's originals, read back as a table, are accepted too, and have its index

module _ (s : Scale) (fair : Fair s) (ts : List Trip) (n : Lengths) (w : Table s ts n) where
  back : List Trip
  back = entries s Originals ts

  pub back_in : In (entries s Originals ts) ts
  back_in = of_originals_lem s fair ts w.rows_ok.fits w.rows_ok.distinct

  pub in_back : In ts (entries s Originals ts)
  in_back = to_originals s fair ts w.rows_ok.fits w.rows_ok.distinct

  pub back_distinct : Distinct (entries s Originals ts)
  back_distinct = originals_distinct s fair ts w.rows_ok.fits w.rows_ok.distinct

  -- as many originals as trips
  pub back_length : length (entries s Originals ts) ≡ length ts
  back_length = length-same (entries s Originals ts) ts back_distinct w.rows_ok.distinct back_in in_back

  pub back_table : Table s (entries s Originals ts) n
  unfolding back
  back_table = record {
    good = w.good;
    few = rw back_length w.few;
    directory = w.directory;
    rows_ok = record {
      fits = λ t m. w.rows_ok.fits t (back_in t m);
      distinct = back_distinct;
      fresh = λ t u m k. absurd (not-nil k);
    };
    room = record {
      for_originals = rw (entries-same s back ts back_distinct w.rows_ok.distinct back_in in_back Originals) w.room.for_originals;
      for_replicas = rw (entries-same s back ts back_distinct w.rows_ok.distinct back_in in_back Replicas) w.room.for_replicas;
    };
  }

  pub back_layout : (k : Lengths) → layout s ts k ≡ layout s (entries s Originals ts) k
  back_layout = layout-same s ts (entries s Originals ts) w.rows_ok.distinct back_distinct in_back back_in

-- ---- refusal 8

of_same_index : (x y : Index) → T (same_index x y) → x ≡ y
unfolding same_index
of_same_index x y t =
    let a = of_and (same x.directory y.directory) (same x.originals y.originals && same x.replicas y.replicas) t in
    let b = of_and (same x.originals y.originals) (same x.replicas y.replicas) a.1 in
    let d = same_eq x.directory y.directory a.0 in
    let o = same_eq x.originals y.originals b.0 in
    let r = same_eq x.replicas y.replicas b.1 in
    λ i. record { directory = d i; originals = o i; replicas = r i }

same_index_refl : (x : Index) → T (same_index x x)
unfolding same_index
same_index_refl x =
    to_and (same x.directory x.directory) (same x.originals x.originals && same x.replicas x.replicas) (same_refl x.directory)
    (to_and (same x.originals x.originals) (same x.replicas x.replicas) (same_refl x.originals) (same_refl x.replicas))

-- words that are an index: the trips read off it are a table that build accepts, and these are its words
pub record Indexed (s : Scale) (x : Index) : Type 0 where
  pub table : Table s (table_of s x) (lengths_of x)
  pub words_are : x ≡ layout s (table_of s x) (lengths_of x)

pub of_is_index : (s : Scale) (x : Index) → T (is_index s x) → Indexed s x
unfolding is_index gives
of_is_index s x t =
    let ts = table_of s x in
    let n = lengths_of x in
    let w = of_and (is_accepted (build_outcome s (words ts) n)) (same_index x (layout s ts n)) t in
    let a = (of_build s (words ts) n (of_accepted (build_outcome s (words ts) n) w.0)).0 in
    record { table = rw rows_words at a; words_are = of_same_index x (layout s ts n) w.1 }

pub to_is_index : (s : Scale) (x : Index) → Indexed s x → T (is_index s x)
unfolding is_index gives is_accepted
to_is_index s x h =
    let ts = table_of s x in
    let n = lengths_of x in
    to_and (is_accepted (build_outcome s (words ts) n)) (same_index x (layout s ts n)) (rw (to_build s ts n h.table) tt)
    (subst (λ (y : Index). T (same_index x y)) h.words_are (same_index_refl x))

-- the words of any accepted table are an index, and the trips read off it are the table's
module _ (s : Scale) (fair : Fair s) (ts : List Trip) (x : Index) (w : Table s ts (lengths_of x)) (e : x ≡ layout s ts (lengths_of x)) where
  pub table_again : table_of s x ≡ entries s Originals ts
  table_again = ap (table_of s) e ∙ table_of_layout s ts (lengths_of x)

  pub indexed : Indexed s x
  indexed = record {
    table = rw table_again (back_table s fair ts (lengths_of x) w);
    words_are = rw table_again (e ∙ back_layout s fair ts (lengths_of x) w (lengths_of x));
  }

-- what is known of a table that gives the words
pub given_table : (s : Scale) (table : List ℕ) (x : Index) → IndexOf s table x → Table s (rows table) (lengths_of x)
given_table s table x g = (of_build s table (lengths_of x) g.accepted).0

pub given_indexed : (s : Scale) → Fair s → (table : List ℕ) (x : Index) → IndexOf s table x → Indexed s x
given_indexed s fair table x g = indexed s fair (rows table) x (given_table s table x g) g.words_are

-- words that are an index are so for a ruler in bounds
pub given_fair : (n : Numbers) (table : List ℕ) (x : Index) → IndexOf (scale_of n) table x → Fair (scale_of n)
given_fair n table x g = fair n (rw (scale-good n) at (given_table (scale_of n) table x g).good)

-- "the index of any table for this ruler and these lengths (a table means one that build accepts)"
pub index_of_some : (s : Scale) (x : Index) → T (is_index s x) → IndexOfSome s x
index_of_some s x t =
    let h = of_is_index s x t in
    record {
      table = words (table_of s x);
      its_index = record { accepted = to_build s (table_of s x) (lengths_of x) h.table; words_are = rw rows_words h.words_are };
    }

pub some-index : (s : Scale) → Fair s → (x : Index) → IndexOfSome s x → T (is_index s x)
some-index s fair x h = to_is_index s x (given_indexed s fair h.table x h.its_index)
