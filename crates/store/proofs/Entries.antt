-- Entries in a list of words: what a trip's stores leave, in words and in rows, and the ids of rows.
use mathlib.Core.Path.{◌≡◌, sym, ap, ap₂, ◌∙◌}
use mathlib.Core.List.{List, [], ◌∷◌, ◌++◌, append_assoc}
use Prim.Native.Nat.{ℕ, suc, ◌+◌, ◌*◌, ◌/◌, ◌<◌}
use native.Mathlib.Omega.{arith}
use lib.ListN.{length, take, drop, get_or, set, length-append}
use lib.Seq.{sets-eq, take_at, drop_at, take-append-add, drop-append-add, set_split}
use Rattle.lists.specs.Lists.{up_to}
use Rattle.lists.proofs.Upto.{map-up_to}
use Rattle.trip.specs.declared.Trip.{Trip}
use Rattle.layout.specs.Words.{entry_words, trip_words, trip_at, words, rows}
use Rattle.layout.proofs.Rows.{words-add, times_one_more, length-rows, rows_cons, rows_append}
use Rattle.layout.proofs.RowParts.{rows_drop, words_take}
use Rattle.store.specs.Entries.{put, ids}

-- the stores of a trip's words, one after another
pub put-words : (l : List ℕ) (k : ℕ) (t : Trip) → k < length l / entry_words
    → set (set (set (set l (entry_words * k) t.id) (entry_words * k + 1) t.start.0) (entry_words * k + 2) t.end.0) (entry_words * k + 3) t.days
    ≡ put k t l
unfolding put trip_words
put-words l k t h =
    let a = entry_words * k in
    let one : a + 1 ≡ suc a = omega arith in
    let two : a + 2 ≡ suc (suc a) = omega arith in
    let three : a + 3 ≡ suc (suc (suc a)) = omega arith in
    rw (one, two, three) (sets-eq (t.id ∷ t.start.0 ∷ t.end.0 ∷ t.days ∷ []) l a (omega arith) ∙ append_assoc (take a l) _ _)

-- a trip put over the words m of the entry after those of p
pub put_seam : (p m q : List ℕ) (k : ℕ) (t : Trip) → length p ≡ entry_words * k → length m ≡ entry_words
    → put k t (p ++ (m ++ q)) ≡ p ++ (trip_words t ++ q)
unfolding put
put_seam p m q k t e f =
    ap₂ (λ (x y : List ℕ). x ++ (trip_words t ++ y)) (take_at p (m ++ q) (entry_words * k) e)
    (ap (drop (entry_words * k + entry_words)) (sym (append_assoc p m q))
    ∙ drop_at (p ++ m) q (entry_words * k + entry_words) (length-append p m ∙ ap₂ ◌+◌ e f))

-- a trip put after the n entries of p
pub put_right : (p q : List ℕ) (n k : ℕ) (t : Trip) → length p ≡ entry_words * n → put (n + k) t (p ++ q) ≡ p ++ put k t q
unfolding put
put_right p q n k t e =
    let a : entry_words * (n + k) ≡ length p + entry_words * k = omega (arith, words-add n k) in
    let b : entry_words * (n + k) + entry_words ≡ length p + (entry_words * k + entry_words) = omega arith in
    rw (b, a, take-append-add p q (entry_words * k), drop-append-add p q (entry_words * k + entry_words)) (append_assoc p (take (entry_words * k) q) _)

-- in rows: one row is another
pub rows-put : (l : List ℕ) (k : ℕ) (t : Trip) → k < length l / entry_words → rows (put k t l) ≡ set (rows l) k t
unfolding put
rows-put l k t h =
    let front : words (take k (rows l)) ≡ take (entry_words * k) l = words_take k l (omega arith) in
    let next : entry_words * k + entry_words ≡ entry_words * suc k = omega (arith, times_one_more k) in
    let back : rows (drop (entry_words * k + entry_words) l) ≡ drop (suc k) (rows l) =
    ap (λ (n : ℕ). rows (drop n l)) next ∙ sym (rows_drop (suc k) l (omega arith)) in
    let rest = drop (entry_words * k + entry_words) l in
    ap (λ (p : List ℕ). rows (p ++ (trip_words t ++ rest))) (sym front) ∙ rows_append (take k (rows l)) (trip_words t ++ rest)
    ∙ ap (λ (r : List Trip). take k (rows l) ++ r) (rows_cons t rest ∙ ap (λ (r : List Trip). t ∷ r) back)
    ∙ sym (set_split (rows l) k t (rw length-rows h))

-- the ids of the rows, read word by word
pub ids-rows : (l : List ℕ) → ids (rows l) ≡ up_to (λ (k : ℕ). get_or l (entry_words * k) 0) (length l / entry_words)
unfolding rows trip_at
ids-rows l = map-up_to (λ (t : Trip). t.id) (trip_at l) (length l / entry_words)
