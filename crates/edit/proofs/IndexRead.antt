-- What the code reads of words that are an index: how many trips and replicas, the rows of the trips, and the halves of the directory.
use mathlib.Core.Path.{◌≡◌, refl, sym, ap, ap₂, subst, ◌∙◌}
use mathlib.Core.Bool.{Bool, true, false, cond, ◌||◌}
use mathlib.Core.List.{List, [], ◌∷◌, ◌++◌}
use Prim.Native.Nat.{ℕ, suc, ◌+◌, ◌-◌, ◌*◌, ◌/◌, ◌≤◌, ◌<◌}
use native.Mathlib.Nat.{le_of_suc-le-suc, not-suc-le-zero}
use native.Mathlib.Decide.{dec_lt}
use native.Mathlib.Omega.{arith}
use lib.Dec.{ltb, eqb}
use lib.ListN.{length, get_or, take, drop, replicate}
use lib.Seq.{take_at, drop_at, drop-length, drop-cons}
use borrow.Author.Tests.{eqb-true, lt-ltb, le-ltb}
use Rattle.lists.specs.Lists.{padded}
use Rattle.ruler.specs.declared.Ruler.{Ruler}
use Rattle.ruler.specs.Ruler.{Scale, deepest, most_trips}
use Rattle.ruler.specs.Made.{scale}
use Rattle.trip.specs.declared.Trip.{Trip}
use Rattle.layout.specs.declared.Half.TheVariants.{Originals, Replicas}
use Rattle.layout.specs.Words.{entry_words, trip_at, words, rows, partitions, half_length, directory_length, entries, directory_half, Index, lengths_of, layout}
use Rattle.layout.specs.Words as laid
use Rattle.layout.specs.Outcomes.{Accepted}
use Rattle.layout.specs.Refusals.{has_id, table_of, check_outcome}
use Rattle.layout.proofs.Checked.{checked}
use Rattle.layout.proofs.RulerCells.{deep-ruler}
use Rattle.layout.specs.Calls.{index}
use Rattle.layout.proofs.Rows.{words-length, rows_words, get_or_rows}
use Rattle.layout.proofs.Indexes.{Indexed, directory_half-length, table_of_layout}
use Rattle.layout.proofs.ByDirectory.{directory_are, originals_are, replicas_are, directory_long, originals_laid, replicas_laid}
use Rattle.layout.proofs.MostEntries.{entries_most}
use Rattle.store.specs.Passes.{most_entries}
use Rattle.store.specs.Halves.{total}
use Rattle.store.specs.Ordered.{no_trip}
use Rattle.store.proofs.Halves.{total_at, two_halves}
use Rattle.std.specs.Prelude.{Option, Some, None}
use Rattle.std.specs.Option.{is_some}
use Rattle.edit.specs.Search.{place_of_id, IsPlaceOf}
use Rattle.edit.specs.HalfEdited.{HalfOf}

-- ---- the trip of an id

next_too : (a b : ℕ) → ltb a b ≡ ltb (suc a) (suc b)
next_too a b = go (dec_lt a b)
  where
    go : Dec (a < b) → ltb a b ≡ ltb (suc a) (suc b)
    go (yes h) = rw (lt-ltb a b h, lt-ltb (suc a) (suc b) (omega arith))
    go (no h) = rw (le-ltb a b (omega arith), le-ltb (suc a) (suc b) (omega arith))

-- the id is there where its place is one of the trips
pub has_place : (i : ℕ) (ts : List Trip) → has_id i ts ≡ ltb (place_of_id i ts) (length ts)
unfolding has_id place_of_id
has_place i [] = refl
has_place i (t ∷ ts) = go (eqb t.id i) (has_place i ts)
  where
    go : (b : Bool) → has_id i ts ≡ ltb (place_of_id i ts) (length ts) → b || has_id i ts ≡ ltb (cond b 0 (suc (place_of_id i ts))) (suc (length ts))
    go true e = sym (lt-ltb 0 (suc (length ts)) (omega arith))
    go false e = e ∙ next_too (place_of_id i ts) (length ts)

pub found-taken : (i : ℕ) (ts : List Trip) (r : Option ℕ) → IsPlaceOf i ts r → is_some r ≡ has_id i ts
found-taken i ts None h = sym (has_place i ts ∙ le-ltb _ _ h)
found-taken i ts (Some k) h = sym (has_place i ts ∙ lt-ltb _ _ (omega (arith, h.0, h.1)))

-- and the trip there has it
pub place_id : (i : ℕ) (ts : List Trip) → place_of_id i ts < length ts → (get_or ts (place_of_id i ts) no_trip).id ≡ i
unfolding place_of_id
place_id i [] h = absurd (not-suc-le-zero h)
place_id i (t ∷ ts) h = go (eqb t.id i) refl h (place_id i ts)
  where
    go : (b : Bool) → eqb t.id i ≡ b → cond b 0 (suc (place_of_id i ts)) < suc (length ts) → (place_of_id i ts < length ts
        → (get_or ts (place_of_id i ts) no_trip).id ≡ i)
        → (get_or (t ∷ ts) (cond b 0 (suc (place_of_id i ts))) no_trip).id ≡ i
    go true e l ih = eqb-true t.id i e
    go false e l ih = ih (le_of_suc-le-suc l)

-- the id of a row
pub row_id : (part : List ℕ) (k : ℕ) → k < length part / entry_words → (get_or (rows part) k no_trip).id ≡ get_or part (entry_words * k) 0
unfolding trip_at
row_id part k h = ap (λ (t : Trip). t.id) (get_or_rows part k no_trip h)

-- the search: k are passed, and none has the id
pub search_hit : (i k : ℕ) (ts : List Trip) → k < length ts → place_of_id i ts ≡ k + place_of_id i (drop k ts)
    → eqb (get_or ts k no_trip).id i ≡ true → k ≡ place_of_id i ts
unfolding place_of_id
search_hit i k ts h w e =
    let z : place_of_id i (drop k ts) ≡ 0 = rw (drop-cons ts k no_trip h, e) in
    omega (arith, w, z)

pub search_miss : (i k : ℕ) (ts : List Trip) → k < length ts → place_of_id i ts ≡ k + place_of_id i (drop k ts) → eqb (get_or ts k no_trip).id i ≡ false
    → place_of_id i ts ≡ k + 1 + place_of_id i (drop (k + 1) ts)
unfolding place_of_id
search_miss i k ts h w e =
    let n : suc k ≡ k + 1 = omega arith in
    let z : place_of_id i (drop k ts) ≡ suc (place_of_id i (drop (suc k) ts)) = rw (drop-cons ts k no_trip h, e) in
    omega (arith, w, z, ap (λ (j : ℕ). place_of_id i (drop j ts)) n)

pub search_end : (i k : ℕ) (ts : List Trip) → k ≡ length ts → place_of_id i ts ≡ k + place_of_id i (drop k ts) → k ≡ place_of_id i ts
unfolding place_of_id
search_end i k ts e w =
    let z : place_of_id i (drop k ts) ≡ 0 = rw (e, drop-length ts) in
    omega (arith, w, z)

-- ---- what an index shows

pub record Shown (s : Scale) (x : Index) : Type 0 where
  pub word_in : 2 * partitions s.m < length x.directory
  pub some_word : 0 < length x.directory
  pub trips : get_or x.directory (2 * partitions s.m) 0 ≡ length (table_of s x)
  pub copies : total x.directory ≡ length (entries s Replicas (table_of s x))
  pub firsts : length (entries s Originals (table_of s x)) ≡ length (table_of s x)
  pub inside : entry_words * length (table_of s x) ≤ length x.originals
  pub listed : rows (take (entry_words * length (table_of s x) - 0) x.originals) ≡ table_of s x
  pub few : length (table_of s x) ≤ most_trips
  pub few_copies : length (entries s Replicas (table_of s x)) ≤ most_entries

-- the numbers that the code reads: of trips, of replicas; and the rows of the trips
module _ (s : Scale) (x : Index) (w : Shown s x) where
  pub trips_read : {m n : ℕ} → m ≡ s.m → n ≡ get_or x.directory (2 * partitions m) 0 → n ≡ length (table_of s x)
  trips_read e f = f ∙ ap (λ (k : ℕ). get_or x.directory (2 * partitions k) 0) e ∙ w.trips

  pub rows-read : {n : ℕ} → n ≡ length (table_of s x) → rows (take (entry_words * n - 0) x.originals) ≡ table_of s x
  rows-read e = ap (λ (k : ℕ). rows (take (entry_words * k - 0) x.originals)) e ∙ w.listed

module _ (s : Scale) (x : Index) (h : Indexed s x) where
  -- the table is read off its own originals
  itself : table_of s x ≡ entries s Originals (table_of s x)
  itself = ap (table_of s) h.words_are ∙ table_of_layout s (table_of s x) (lengths_of x)

  many : get_or x.directory (2 * partitions s.m) 0 ≡ length (table_of s x)
  unfolding entries
  many =
      let at : 2 * partitions s.m ≡ 0 + 2 * partitions s.m = omega arith in
      ap (λ (k : ℕ). get_or x.directory k 0) at ∙ (originals_laid s x h).word (2 * partitions s.m) (omega arith) ∙ ap length (sym itself)

  replicated : total x.directory ≡ length (entries s Replicas (table_of s x))
  unfolding directory_length half_length entries
  replicated =
      total_at x.directory (half_length s.m + 2 * partitions s.m) (omega (arith, directory_long s x h))
      ∙ (replicas_laid s x h).word (2 * partitions s.m) (omega arith)

  front : rows (take (entry_words * length (table_of s x) - 0) x.originals) ≡ table_of s x
  unfolding laid.arena padded
  front =
      let l = words (entries s Originals (table_of s x)) in
      let z : entry_words * length (table_of s x) - 0 ≡ entry_words * length (table_of s x) = omega arith in
      let n : length l ≡ entry_words * length (table_of s x) = words-length (entries s Originals (table_of s x))
      ∙ ap (λ (k : List Trip). entry_words * length k) (sym itself) in
      ap rows (ap₂ take z (originals_are s x h) ∙ take_at l (replicate (length x.originals - length l) 0) (entry_words * length (table_of s x)) n)
      ∙ rows_words (entries s Originals (table_of s x)) ∙ sym itself

  enough : entry_words * length (table_of s x) ≤ length x.originals
  unfolding lengths_of
  enough = subst (λ (l : List Trip). entry_words * length l ≤ length x.originals) (sym itself) h.table.room.for_originals

  long_directory : (2 * partitions s.m < length x.directory) × (0 < length x.directory)
  unfolding directory_length half_length
  long_directory = (omega (arith, directory_long s x h), omega (arith, directory_long s x h))

  shown : s.m ≤ deepest → Shown s x
  shown deep = record {
    word_in = long_directory.0;
    some_word = long_directory.1;
    trips = many;
    copies = replicated;
    firsts = ap length (sym itself);
    inside = enough;
    listed = front;
    few = h.table.few;
    few_copies = entries_most s deep (table_of s x) h.table.few Replicas;
  }

  -- ---- its halves, as an edit splits the directory

  module _ {half : ℕ} (cut : half ≡ half_length s.m) where
    pub both : length x.directory ≡ half + half
    both = two_halves s.m (directory_long s x h) cut

    long_first : (ts : List Trip) → length (directory_half s Originals ts) ≡ half
    long_first ts = directory_half-length s Originals ts ∙ sym cut

    pub first_of_lem : HalfOf s Originals (table_of s x) x (take half x.directory) x.originals
    first_of_lem = record {
      directory-is = ap (take half) (directory_are s x h)
          ∙ take_at (directory_half s Originals (table_of s x)) (directory_half s Replicas (table_of s x)) half (long_first (table_of s x));
      arena-is = originals_are s x h;
    }

    pub second_of : HalfOf s Replicas (table_of s x) x (drop half x.directory) x.replicas
    second_of = record {
      directory-is = ap (drop half) (directory_are s x h)
          ∙ drop_at (directory_half s Originals (table_of s x)) (directory_half s Replicas (table_of s x)) half (long_first (table_of s x));
      arena-is = replicas_are s x h;
    }

-- of words that pass the check
pub seen : (r : Ruler) (x : Index) → check_outcome (scale r) x ≡ Accepted → Shown (scale r) x
seen r x passes = shown (scale r) x (checked (scale r) x passes) (deep-ruler r)

-- both halves of some trips, joined, are their index
pub both_of : (s : Scale) (x : Index) (ts : List Trip) (f o g r : List ℕ) → HalfOf s Originals ts x f o → HalfOf s Replicas ts x g r
    → index (f ++ g) o r ≡ layout s ts (lengths_of x)
unfolding layout lengths_of
both_of s x ts f o g r w v =
    let d = ap₂ ◌++◌ w.directory-is v.directory-is in
    let a = w.arena-is in
    let b = v.arena-is in
    λ i. record { directory = d i; originals = a i; replicas = b i }
