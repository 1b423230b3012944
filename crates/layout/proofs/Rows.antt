-- Words and rows: what is written as a trip's words is read as that trip, and whole rows are written back as their words. Only the first
-- part knows how many words a trip has, and which.
use mathlib.Core.Path.{◌≡◌, refl, sym, ap, ap₂, ◌∙◌}
use mathlib.Core.List.{List, [], ◌∷◌, ◌++◌, append_assoc, append-nil}
use Prim.Native.Nat.{ℕ, zero, suc, ◌+◌, ◌*◌, ◌/◌, ◌%◌, ◌≤◌, ◌<◌}
use native.Mathlib.Omega.{arith}
use lib.ListN.{length, take, drop, get_or, length-append, length-drop}
use lib.Seq.{get_or-append-add, get_or-drop, take_at}
use Rattle.lists.specs.Lists.{up_to}
use Rattle.lists.proofs.Upto.{length-up_to, get_or_up_to, up_to_cons, up_to_ext}
use Rattle.trip.specs.declared.Trip.{Trip}
use Rattle.layout.specs.Words.{entry_words, trip_words, trip_at, words, rows}

-- ---- one trip

pub trip_words-length : (t : Trip) → length (trip_words t) ≡ entry_words
unfolding trip_words
trip_words-length t = refl

pub trip_at_first : (t : Trip) (l : List ℕ) → trip_at (trip_words t ++ l) 0 ≡ t
unfolding trip_words trip_at
trip_at_first t l = refl

-- the first row of a list that has one
pub first_row : (l : List ℕ) → entry_words ≤ length l → trip_words (trip_at l 0) ++ drop entry_words l ≡ l
unfolding trip_words trip_at
first_row [] h = absurd (omega arith)
first_row (a ∷ []) h = absurd (omega arith)
first_row (a ∷ b ∷ []) h = absurd (omega arith)
first_row (a ∷ b ∷ c ∷ []) h = absurd (omega arith)
first_row (a ∷ b ∷ c ∷ d ∷ l) h = refl

-- a trip is read at k as its words stand from entry_words × k on
trip_at-from : (l k : List ℕ) (i j : ℕ) → ((n : ℕ) → get_or l (entry_words * i + n) 0 ≡ get_or k (entry_words * j + n) 0) → trip_at l i ≡ trip_at k j
unfolding trip_at
trip_at-from l k i j h =
    let zero_more : (x : ℕ) → x + 0 ≡ x = λ x. omega arith in
    let first : get_or l (entry_words * i) 0 ≡ get_or k (entry_words * j) 0 = simp zero_more at (h 0) in
    rw (first, h 1, h 2, h 3)

pub words-some : 1 ≤ entry_words
words-some = omega arith

-- whole entries and the words that they have
pub one_more : (n : ℕ) → (entry_words + n) / entry_words ≡ suc (n / entry_words)
one_more n = omega arith

pub times_one_more : (n : ℕ) → entry_words * suc n ≡ entry_words + entry_words * n
times_one_more n = omega arith

pub no_words : entry_words * 0 ≡ 0
no_words = refl

pub whole : (n : ℕ) → entry_words * n / entry_words ≡ n
whole n = omega arith

pub whole-rest : (n : ℕ) → entry_words * n % entry_words ≡ 0
whole-rest n = omega arith

pub of_whole : (n : ℕ) → n % entry_words ≡ 0 → entry_words * (n / entry_words) ≡ n
of_whole n e = omega arith

pub words-add : (n k : ℕ) → entry_words * (n + k) ≡ entry_words * n + entry_words * k
words-add n k = omega arith

pub words_le : {n k : ℕ} → n ≤ k → entry_words * n ≤ entry_words * k
words_le h = omega arith

-- ---- trips one after another

-- entries dropped from the front are passed over in reading
pub trip_at-drop : (n : ℕ) (l : List ℕ) (k : ℕ) → trip_at (drop (entry_words * n) l) k ≡ trip_at l (n + k)
trip_at-drop n l k = trip_at-from (drop (entry_words * n) l) l k (n + k) (λ i.
    let e : entry_words * n + (entry_words * k + i) ≡ entry_words * (n + k) + i = omega (arith, words-add n k) in
    get_or-drop (entry_words * n) l (entry_words * k + i) 0 ∙ ap (λ (j : ℕ). get_or l j 0) e)

-- a trip in front is passed over
pub trip_at-later : (t : Trip) (l : List ℕ) (k : ℕ) → trip_at (trip_words t ++ l) (suc k) ≡ trip_at l k
trip_at-later t l k = trip_at-from (trip_words t ++ l) l (suc k) k (λ i.
    let e : entry_words * suc k + i ≡ length (trip_words t) + (entry_words * k + i) = omega (arith, times_one_more k, trip_words-length t) in
    ap (λ (j : ℕ). get_or (trip_words t ++ l) j 0) e ∙ get_or-append-add (trip_words t) l (entry_words * k + i) 0)

pub length-rows : (l : List ℕ) → length (rows l) ≡ length l / entry_words
unfolding rows
length-rows l = length-up_to (trip_at l) (length l / entry_words)

pub get_or_rows : (l : List ℕ) (k : ℕ) (d : Trip) → k < length l / entry_words → get_or (rows l) k d ≡ trip_at l k
unfolding rows
get_or_rows l k d h = get_or_up_to (trip_at l) (length l / entry_words) k d h

pub rows_cons : (t : Trip) (l : List ℕ) → rows (trip_words t ++ l) ≡ t ∷ rows l
unfolding rows
rows_cons t l =
    let n = length l / entry_words in
    let many : length (trip_words t ++ l) / entry_words ≡ suc n = ap (λ (k : ℕ). k / entry_words)
    (length-append (trip_words t) l ∙ ap (λ (k : ℕ). k + length l) (trip_words-length t)) ∙ one_more (length l) in
    ap (up_to (trip_at (trip_words t ++ l))) many ∙ up_to_cons (trip_at (trip_words t ++ l)) n
    ∙ ap₂ ◌∷◌ (trip_at_first t l) (up_to_ext _ _ n (λ k h. trip_at-later t l k))

pub rows_append : (ts : List Trip) (l : List ℕ) → rows (words ts ++ l) ≡ ts ++ rows l
unfolding words
rows_append [] l = refl
rows_append (t ∷ ts) l = rw append_assoc (rows_cons t (words ts ++ l) ∙ ap (λ (us : List Trip). t ∷ us) (rows_append ts l))

pub rows_none : rows [] ≡ []
unfolding rows up_to
rows_none = refl

pub rows_words : (ts : List Trip) → rows (words ts) ≡ ts
rows_words ts = ap rows (sym (append-nil (words ts))) ∙ rows_append ts [] ∙ ap (λ (us : List Trip). ts ++ us) rows_none ∙ append-nil ts

pub rows-front : (ts : List Trip) (l : List ℕ) → take (length ts) (rows (words ts ++ l)) ≡ ts
rows-front ts l = rw rows_append (take_at ts (rows l) (length ts) refl)

pub words_cons : (t : Trip) (ts : List Trip) → words (t ∷ ts) ≡ trip_words t ++ words ts
unfolding words
words_cons t ts = refl

pub words_append : (ts us : List Trip) → words (ts ++ us) ≡ words ts ++ words us
unfolding words
words_append [] us = refl
words_append (t ∷ ts) us = rw append_assoc (ap (λ (l : List ℕ). trip_words t ++ l) (words_append ts us))

pub words-length : (ts : List Trip) → length (words ts) ≡ entry_words * length ts
unfolding words
words-length [] = sym no_words
words-length (t ∷ ts) = length-append (trip_words t) (words ts) ∙ omega (arith, trip_words-length t, words-length ts, times_one_more (length ts))

-- whole rows are written back as they were
words-rows_of : (n : ℕ) (l : List ℕ) → length l ≡ entry_words * n → words (rows l) ≡ l
unfolding words
words-rows_of zero [] e = ap words rows_none
words-rows_of zero (x ∷ l) e = absurd (omega (arith, no_words))
words-rows_of (suc n) l e =
    let long : entry_words ≤ length l = omega (arith, times_one_more n) in
    let rest = drop entry_words l in
    let split = first_row l long in
    let short : length rest ≡ entry_words * n = length-drop entry_words l ∙ omega (arith, times_one_more n) in
    ap (λ (k : List ℕ). words (rows k)) (sym split) ∙ ap words (rows_cons (trip_at l 0) rest)
    ∙ words_cons (trip_at l 0) (rows rest) ∙ ap (λ (k : List ℕ). trip_words (trip_at l 0) ++ k) (words-rows_of n rest short) ∙ split

pub words-rows : (l : List ℕ) → length l % entry_words ≡ 0 → words (rows l) ≡ l
words-rows l e = words-rows_of (length l / entry_words) l (sym (of_whole (length l) e))
