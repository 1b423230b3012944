-- A turn, a stop and the end of each loop of the check: the test of what is left is the test of the whole.
use mathlib.Core.Path.{◌≡◌, refl, ◌∙◌}
use mathlib.Core.Bool.{Bool, true, false, ◌&&◌, and-true, and-false, and_assoc}
use mathlib.Core.List.{List, [], ◌∷◌}
use Prim.Native.Nat.{ℕ, zero, suc, ◌+◌, ◌*◌, ◌/◌, ◌≤◌, ◌<◌}
use native.Mathlib.Numerals.{add-one}
use native.Mathlib.Decide.{dec_lt}
use native.Mathlib.Omega.{arith}
use lib.Bits.{bit_or, or_add_and, and_le_r}
use lib.Dec.{eqb, ltb}
use lib.ListN.{length, get_or, drop, drop_of_length-le}
use lib.Seq.{drop-cons}
use borrow.Author.Tests.{lt-ltb, le-ltb, ne_eqb}
use Rattle.lists.proofs.Tests.{of_T, to_T}
use Rattle.lists.proofs.Halving.{at_mem}
use Rattle.trip.specs.declared.Trip.{Trip}
use Rattle.layout.specs.declared.Subdivision.{Subdivision}
use Rattle.layout.specs.Words.{entry_words, trip_at, rows, order}
use Rattle.layout.proofs.Rows.{length-rows, get_or_rows}
use Rattle.store.specs.Entries.{word_end}
use Rattle.store.specs.Ordered.{no_trip, key_place, key_by}
use Rattle.store.proofs.SlotKeys.{key_below}
use Rattle.verify.specs.Passing.{below, each, after, in_row, blank}
use Rattle.verify.proofs.Passing.{of_each}

-- ---- words

or_zero : (a b : ℕ) → eqb (bit_or a b) 0 ≡ eqb a 0 && eqb b 0
or_zero zero b = refl
or_zero (suc a) b =
    let some : bit_or (suc a) b ≡ 0 → ⊥ = λ z. omega (arith, or_add_and (suc a) b, and_le_r (suc a) b) in
    rw (ne_eqb (suc a) 0 (λ z. omega arith)) (ne_eqb (bit_or (suc a) b) 0 some)

module _ (xs : List ℕ) (i : ℕ) where
  left : i < length xs → drop i xs ≡ get_or xs i 0 ∷ drop (i + 1) xs
  left h = rw (add-one, drop-cons xs i 0)

  -- a word is added to those met: no digit of either is set exactly if both are zero
  pub blank-more : (any : ℕ) → i < length xs → eqb (bit_or any (get_or xs i 0)) 0 && blank (drop (i + 1) xs) ≡ eqb any 0 && blank (drop i xs)
  unfolding blank
  blank-more any h = rw (left h, or_zero any (get_or xs i 0)) (and_assoc (eqb any 0) _ _)

  pub blank_end : (any : ℕ) → length xs ≤ i → eqb any 0 && blank (drop i xs) ≡ eqb any 0
  unfolding blank
  blank_end any h = rw (drop_of_length-le xs h) (and-true (eqb any 0))

-- ---- the rows of a part

module _ (part : List ℕ) where
  row_left : (k : ℕ) → k < length part / entry_words → drop k (rows part) ≡ trip_at part k ∷ drop (k + 1) (rows part)
  row_left k h =
      let here : get_or (rows part) k (trip_at part k) ≡ trip_at part k = get_or_rows part k (trip_at part k) h in
      drop-cons (rows part) k (trip_at part k) (rw length-rows h) ∙ rw (here, add-one)

  pub row_none : (k : ℕ) → length part / entry_words ≤ k → drop k (rows part) ≡ []
  row_none k h = drop_of_length-le (rows part) {i = k} (rw length-rows h)

  -- one of rows that all pass
  pub each_row : (p : Trip → Bool) → each p (rows part) ≡ true → (k : ℕ) → k < length part / entry_words → p (trip_at part k) ≡ true
  each_row p e k h =
      of_T _ (rw (get_or_rows part k no_trip h) at (of_each p (rows part) (to_T e) (get_or (rows part) k no_trip) (at_mem no_trip (rows part) k (rw length-rows h))))

  -- where the rows left all pass exactly if b is true
  module _ (p : Trip → Bool) (k : ℕ) {b : Bool} (left : each p (drop k (rows part)) ≡ b) where
    pub each_more : k < length part / entry_words → p (trip_at part k) ≡ true → each p (drop (k + 1) (rows part)) ≡ b
    unfolding each
    each_more h e = rw (row_left k h, e) at left

    pub each_stop : k < length part / entry_words → p (trip_at part k) ≡ false → false ≡ b
    unfolding each
    each_stop h e = rw (row_left k h, e) at left

    pub each_end : length part / entry_words ≤ k → true ≡ b
    unfolding each
    each_end h = rw (row_none k h) at left

  module _ (p : Trip → Bool) (lt : Trip → Trip → Bool) where
    pub row_empty : length part / entry_words ≡ 0 → in_row p lt (rows part) ≡ true
    unfolding in_row
    row_empty h = let e : rows part ≡ [] = row_none 0 (omega arith) in rw e

    pub row_first : 0 < length part / entry_words → p (trip_at part 0) ≡ true → after p lt (trip_at part 0) (drop 1 (rows part)) ≡ in_row p lt (rows part)
    unfolding in_row
    row_first h e = let l : rows part ≡ trip_at part 0 ∷ drop (0 + 1) (rows part) = row_left 0 h in rw (l, e)

    pub row_fails : 0 < length part / entry_words → p (trip_at part 0) ≡ false → in_row p lt (rows part) ≡ false
    unfolding in_row
    row_fails h e = let l : rows part ≡ trip_at part 0 ∷ drop (0 + 1) (rows part) = row_left 0 h in rw (l, e)

-- The trips from place k on stand in a row after x, the last one met, exactly if all of them stand in a row: `last` is the key of x.
abbrev pub Met : (part : List ℕ) (p : Trip → Bool) (by last k : ℕ) → Type 0
Met part p by last k =
    (x : Trip) × (x.id < word_end) × (last ≡ key_by by x)
    × ((d : Subdivision) → by ≡ key_place d → after p (order d) x (drop k (rows part)) ≡ in_row p (order d) (rows part))

-- ids are words
id_below : (part : List ℕ) → ((i : ℕ) → get_or part i 0 < word_end) → (k : ℕ) → (trip_at part k).id < word_end
unfolding trip_at
id_below part word k = omega (arith, word (entry_words * k))

module _ (part : List ℕ) (p : Trip → Bool) (by : ℕ) where
  pub met_first : (last : ℕ) → ((i : ℕ) → get_or part i 0 < word_end) → 0 < length part / entry_words → p (trip_at part 0) ≡ true
      → last ≡ key_by by (trip_at part 0) → Met part p by last 1
  met_first last word h e l = (trip_at part 0, id_below part word 0, l, λ d q. row_first part p (order d) h e)

  module _ (last k : ℕ) (met : Met part p by last k) where
    pub met_out : k < length part / entry_words → p (trip_at part k) ≡ false → (d : Subdivision) → by ≡ key_place d
        → false ≡ in_row p (order d) (rows part)
    unfolding after
    met_out h e d q = rw (row_left part k h, e) at (met.3 d q)

    pub met_end : length part / entry_words ≤ k → (d : Subdivision) → by ≡ key_place d → true ≡ in_row p (order d) (rows part)
    unfolding after
    met_end h d q = rw (row_none part k h) at (met.3 d q)

    -- the next one, by its key
    module _ (key : ℕ) (word : (i : ℕ) → get_or part i 0 < word_end) (h : k < length part / entry_words) (e : p (trip_at part k) ≡ true)
        (n : key ≡ key_by by (trip_at part k)) where
      step : (b : Bool) (d : Subdivision) → by ≡ key_place d → ltb last key ≡ b
          → b && after p (order d) (trip_at part k) (drop (k + 1) (rows part)) ≡ in_row p (order d) (rows part)
      unfolding after
      step b d q f =
          let above = key_below d by q met.0 (trip_at part k) met.1 (id_below part word k) in
          rw (row_left part k h, e, above, ← met.2, ← n, f) at (met.3 d q)

      pub met_low : key ≤ last → (d : Subdivision) → by ≡ key_place d → false ≡ in_row p (order d) (rows part)
      met_low low d q = step false d q (le-ltb last key low)

      pub met_more : last < key → Met part p by key (k + 1)
      met_more up = (trip_at part k, id_below part word k, n, λ d q. step true d q (lt-ltb last key up))

-- ---- numbers

module _ (f : ℕ → Bool) where
  pub below-start : below f 0 ≡ true
  unfolding below
  below-start = refl

  pub below_more : (k : ℕ) → below f k ≡ true → f k ≡ true → below f (k + 1) ≡ true
  unfolding below
  below_more k e q = rw (add-one, e, q)

  pub below_stop : (n k : ℕ) → k < n → f k ≡ false → below f n ≡ false
  unfolding below
  below_stop zero k h q = absurd (omega arith)
  below_stop (suc n) k h q = go (dec_lt k n) (below_stop n k)
    where
      go : Dec (k < n) → (k < n → f k ≡ false → below f n ≡ false) → below f n && f n ≡ false
      go (yes l) ih = rw (ih l q)
      go (no l) ih = let e : k ≡ n = omega arith in rw (← e, q) (and-false (below f k))
