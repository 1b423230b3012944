-- One half's words: those that pass `half_ok` hold the trips that they are cut into, slot after slot; and words that hold the lists
-- f 0 .. f (n - 1) pass, and are cut into these.
use mathlib.Core.Path.{◌≡◌, refl, sym, ap, ap₂, ◌∙◌}
use mathlib.Core.Bool.{Bool, true, ◌&&◌}
use mathlib.Core.List.{List, [], ◌∷◌, ◌++◌}
use Prim.Native.Nat.{ℕ, zero, suc, ◌+◌, ◌-◌, ◌*◌, ◌%◌, ◌≤◌, ◌<◌}
use native.Mathlib.Omega.{arith}
use native.Mathlib.Numerals.{add-one}
use native.Mathlib.Decide.{le_ind}
use lib.Dec.{T, leb, eqb, leb→le, le→leb, eqb→eq}
use lib.ListN.{length, get_or, take, drop, replicate, length-drop, take-append-drop}
use lib.Seq.{length-take-le, drop_at, take-add, ext_get_or}
use Rattle.std.specs.Prelude.{IsTrue, ◌↔◌}
use Rattle.lists.specs.Lists.{joined, up_to, padded}
use Rattle.lists.proofs.Tests.{of_and, to_and, of_T, to_T}
use Rattle.lists.proofs.Joined.{length_more}
use Rattle.lists.proofs.Upto.{length-up_to, get_or_up_to}
use Rattle.trip.specs.declared.Trip.{Trip}
use Rattle.layout.specs.Words.{entry_words, words, rows}
use Rattle.layout.proofs.Rows.{rows_words, words-rows, words_append, words-length, words_le}
use Rattle.layout.proofs.RowParts.{words-joined}
use Rattle.layout.proofs.LocalConditions.{Laid, laid_room}
use Rattle.store.specs.Halves.{total}
use Rattle.store.specs.Parts.{part_words, PartThere}
use Rattle.store.proofs.Halves.{total_at}
use Rattle.verify.specs.Passing.{rising, blank}
use Rattle.verify.proofs.Passing.{bool_ext}
use Rattle.verify.specs.Local.{half_ok, slot_at, trips_of}

-- ---- the tests on words, as facts

of_rising : (n : ℕ) (ds : List ℕ) → T (rising n ds) → (k : ℕ) → k < length ds → get_or (n ∷ ds) k 0 ≤ get_or ds k 0
unfolding rising
of_rising n [] t k h = absurd (omega arith)
of_rising n (d ∷ ds) t zero h = leb→le n d (of_and (leb n d) (rising d ds) t).0
of_rising n (d ∷ ds) t (suc k) h = of_rising d ds (of_and (leb n d) (rising d ds) t).1 k (omega arith)

to_rising : (n : ℕ) (ds : List ℕ) → ((k : ℕ) → k < length ds → get_or (n ∷ ds) k 0 ≤ get_or ds k 0) → T (rising n ds)
unfolding rising
to_rising n [] h = tt
to_rising n (d ∷ ds) h = to_and (leb n d) (rising d ds) (le→leb n d (h zero (omega arith))) (to_rising d ds (λ k l. h (suc k) (omega arith)))

of_blank : (xs : List ℕ) → T (blank xs) → xs ≡ replicate (length xs) 0
unfolding blank
of_blank [] t = refl
of_blank (x ∷ xs) t = let w = of_and (eqb x 0) (blank xs) t in ap₂ ◌∷◌ (eqb→eq x 0 w.0) (of_blank xs w.1)

to_blank : (n : ℕ) → T (blank (replicate n 0))
unfolding blank
to_blank zero = tt
to_blank (suc n) = to_blank n

-- the counts of n slots start at 0 and never fall, the entries fit the arena, and zeros follow them
pub record Cut (dir arena : List ℕ) (n : ℕ) : Type 0 where
  pub first : get_or dir 0 0 ≡ 0
  pub up : (k : ℕ) → k < n → get_or dir k 0 ≤ get_or dir (k + 1) 0
  pub fits : entry_words * get_or dir n 0 ≤ length arena
  pub rest : drop (entry_words * get_or dir n 0) arena ≡ replicate (length arena - entry_words * get_or dir n 0) 0

rising_at : (dir : List ℕ) (n : ℕ) → length dir ≡ n + 1 → T (rising (get_or dir 0 0) (drop 1 dir)) → (k : ℕ) → k < n → get_or dir k 0 ≤ get_or dir (k + 1) 0
rising_at [] n l t k h = absurd (omega arith)
rising_at (d ∷ ds) n l t k h = rw add-one (of_rising d ds t k (omega arith))

at_rising : (dir : List ℕ) (n : ℕ) → length dir ≡ n + 1 → ((k : ℕ) → k < n → get_or dir k 0 ≤ get_or dir (k + 1) 0)
    → T (rising (get_or dir 0 0) (drop 1 dir))
unfolding rising
at_rising [] n l h = tt
at_rising (d ∷ ds) n l h = to_rising d ds (λ k i. rw add-one at (h k (omega arith)))

-- the test of each word and the next is the test of all
pub up_rises : (dir : List ℕ) (r : Bool) → 0 < length dir → (IsTrue r ↔ ((k : ℕ) → k + 1 < length dir → get_or dir k 0 ≤ get_or dir (k + 1) 0))
    → r ≡ rising (get_or dir 0 0) (drop 1 dir)
up_rises dir r some w =
    let n = length dir - 1 in
    bool_ext r (rising (get_or dir 0 0) (drop 1 dir))
    (λ t. at_rising dir n (omega arith) (λ k h. w.0 (of_T r t) k (omega arith)))
    (λ t. to_T (w.1 (λ k h. rising_at dir n (omega arith) t k (omega arith))))

pub of_half : (dir arena : List ℕ) (n : ℕ) → length dir ≡ n + 1 → T (half_ok dir arena) → Cut dir arena n
unfolding half_ok
of_half dir arena n l t =
    let u = entry_words * total dir in
    let e : u ≡ entry_words * get_or dir n 0 = ap (λ (k : ℕ). entry_words * k) (total_at dir n l) in
    let a = of_and (eqb (get_or dir 0 0) 0) (rising (get_or dir 0 0) (drop 1 dir) && (leb u (length arena) && blank (drop u arena))) t in
    let b = of_and (rising (get_or dir 0 0) (drop 1 dir)) (leb u (length arena) && blank (drop u arena)) a.1 in
    let c = of_and (leb u (length arena)) (blank (drop u arena)) b.1 in
    record {
      first = eqb→eq (get_or dir 0 0) 0 a.0;
      up = rising_at dir n l b.0;
      fits = rw e at (leb→le u (length arena) c.0);
      rest = rw (length-drop, e) at (of_blank (drop u arena) c.1);
    }

pub to_half : (dir arena : List ℕ) (n : ℕ) → length dir ≡ n + 1 → Cut dir arena n → T (half_ok dir arena)
unfolding half_ok
to_half dir arena n l c =
    let u = entry_words * get_or dir n 0 in
    rw (total_at dir n l)
    (to_and (eqb (get_or dir 0 0) 0) _ (rw c.first tt)
    (to_and (rising (get_or dir 0 0) (drop 1 dir)) _ (at_rising dir n l c.up)
    (to_and (leb u (length arena)) _ (le→leb u (length arena) c.fits) (rw c.rest (to_blank (length arena - u))))))

-- ---- words that are cut so

-- whole entries between two counts
whole_part : (a b : ℕ) → a ≤ b → (entry_words * b - entry_words * a) % entry_words ≡ 0
whole_part a b h = omega arith

count-words : (a b : ℕ) → entry_words * a ≡ entry_words * b → a ≡ b
count-words a b e = omega arith

module _ (dir arena : List ℕ) (n : ℕ) (c : Cut dir arena n) where
  pub rises_to : (j k : ℕ) → j ≤ k → k ≤ n → get_or dir j 0 ≤ get_or dir k 0
  rises_to j k h g =
      le_ind (λ (i : ℕ). i ≤ n → get_or dir j 0 ≤ get_or dir i 0) (λ q. omega arith)
      (λ i ji ih q. let l = ih (omega arith) in let s : get_or dir i 0 ≤ get_or dir (suc i) 0 = rw add-one at (c.up i q) in omega arith)
      k h g

  pub word_fits : (k : ℕ) → k ≤ n → entry_words * get_or dir k 0 ≤ length arena
  word_fits k h = omega (arith, words_le (rises_to k n h (omega arith)), c.fits)

  slot_whole : (k : ℕ) → k < n → words (slot_at dir arena k) ≡ part_words dir arena k (k + 1)
  unfolding slot_at part_words
  slot_whole k h =
      let a = entry_words * get_or dir k 0 in
      let b = entry_words * get_or dir (k + 1) 0 in
      let fits : b ≤ length arena = word_fits (k + 1) (omega arith) in
      let long : length (take (b - a) (drop a arena)) ≡ b - a = length-take-le (b - a) (drop a arena) (rw length-drop (omega arith)) in
      words-rows (take (b - a) (drop a arena)) (rw long (whole_part (get_or dir k 0) (get_or dir (k + 1) 0) (c.up k h)))

  -- the words before slot k are those of the slots before it
  pub words_cut : (k : ℕ) → k ≤ n → words (joined (slot_at dir arena) k) ≡ take (entry_words * get_or dir k 0) arena
  unfolding joined words part_words
  words_cut zero h = rw c.first refl
  words_cut (suc k) h =
      let a = entry_words * get_or dir k 0 in
      let b = entry_words * get_or dir (k + 1) 0 in
      let e : a + (b - a) ≡ b = omega (arith, words_le (c.up k (omega arith))) in
      words_append (joined (slot_at dir arena) k) (slot_at dir arena k) ∙ ap₂ ◌++◌ (words_cut k (omega arith)) (slot_whole k (omega arith))
      ∙ sym (take-add a (b - a) arena) ∙ ap (λ (i : ℕ). take i arena) e ∙ rw add-one refl

  pub count_cut : (k : ℕ) → k ≤ n → length (joined (slot_at dir arena) k) ≡ get_or dir k 0
  count_cut k h =
      let a = words-length (joined (slot_at dir arena) k) in
      let b = ap length (words_cut k h) in
      let d = length-take-le (entry_words * get_or dir k 0) arena (word_fits k h) in
      count-words _ _ (sym a ∙ b ∙ d)

  pub cut_laid : length dir ≡ n + 1 → Laid dir arena (slot_at dir arena) n
  unfolding padded
  cut_laid l = record {
    counts = ext_get_or 0 dir (up_to (λ k. length (joined (slot_at dir arena) k)) (n + 1)) (l ∙ sym (length-up_to _ (n + 1)))
        (λ i h. sym (get_or_up_to (λ k. length (joined (slot_at dir arena) k)) (n + 1) i 0 (omega arith) ∙ count_cut i (omega arith)));
    stored =
        let u = entry_words * get_or dir n 0 in
        let e : words (joined (slot_at dir arena) n) ≡ take u arena = words_cut n (omega arith) in
        rw (e, length-take-le u arena c.fits, ← c.rest) (sym (take-append-drop u arena));
  }

  -- the trips of all slots
  pub trips_cut : length dir ≡ n + 1 → trips_of dir arena ≡ joined (slot_at dir arena) n
  unfolding trips_of
  trips_cut l = rw (total_at dir n l, ← words_cut n (omega arith)) (rows_words (joined (slot_at dir arena) n))

-- what a half that passes shows of slot k
pub slot_in : (dir arena : List ℕ) (n : ℕ) → length dir ≡ n + 1 → half_ok dir arena ≡ true → (k : ℕ) → k < n → PartThere dir arena k (k + 1)
slot_in dir arena n l e k h =
    let c = of_half dir arena n l (to_T e) in
    record { from_in = omega arith; to_in = omega arith; rises = c.up k h; room = word_fits dir arena n c (k + 1) (omega arith) }

-- ---- words that hold lists

none_before : {A : Type 0} (f : ℕ → List A) → length (joined f 0) ≡ 0
unfolding joined
none_before f = refl

module _ (dir arena : List ℕ) (f : ℕ → List Trip) (n : ℕ) (w : Laid dir arena f n) where
  pub laid_length : length dir ≡ n + 1
  laid_length = ap length w.counts ∙ length-up_to _ (n + 1)

  laid_count : (k : ℕ) → k ≤ n → get_or dir k 0 ≡ length (joined f k)
  laid_count k h = ap (λ (d : List ℕ). get_or d k 0) w.counts ∙ get_or_up_to (λ k. length (joined f k)) (n + 1) k 0 (omega arith)

  pub laid_cut : Cut dir arena n
  unfolding padded
  laid_cut =
      let ws = words (joined f n) in
      let l : length ws ≡ entry_words * length (joined f n) = words-length (joined f n) in
      record {
        first = laid_count 0 (omega arith) ∙ none_before f;
        up = λ k h. rw (laid_count k (omega arith), laid_count (k + 1) (omega arith)) (omega (arith, length_more f k));
        fits = rw (laid_count n (omega arith)) (laid_room dir arena f n w);
        rest = rw (laid_count n (omega arith), ← l)
            (ap (drop (length ws)) w.stored ∙ drop_at ws (replicate (length arena - length ws) 0) (length ws) refl);
      }

  -- cut at its slots, each list comes back
  pub laid_at : (k : ℕ) → k < n → slot_at dir arena k ≡ f k
  unfolding slot_at part_words padded joined
  laid_at k h =
      let zeros : List ℕ = replicate (length arena - length (words (joined f n))) 0 in
      let a = entry_words * length (joined f k) in
      let b = entry_words * length (joined f (k + 1)) in
      let part : List ℕ → List ℕ = λ l. take (b - a) (drop a l) in
      let none : k + 0 ≡ k = omega arith in
      rw (laid_count k (omega arith), laid_count (k + 1) (omega arith))
      (ap rows (ap part w.stored ∙ words-joined f n k 1 zeros (omega arith)) ∙ rows_words (f (k + 0)) ∙ ap f none)
