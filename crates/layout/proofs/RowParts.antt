-- Parts of a list of entries that begin and end at whole entries: their rows are parts of the rows, and the part between the entries of the
-- first lists and those of some more is the words of these.
use mathlib.Core.Path.{◌≡◌, refl, sym, ap, ◌∙◌}
use mathlib.Core.List.{List, ◌++◌, append_assoc}
use Prim.Native.Nat.{ℕ, ◌+◌, ◌-◌, ◌*◌, ◌/◌, ◌%◌, ◌≤◌}
use native.Mathlib.Omega.{arith}
use lib.ListN.{length, take, drop, length-append, length-drop, take-append-drop}
use lib.Seq.{length-take-le, take_at, drop_at, take-add, drop-drop}
use Rattle.lists.specs.Lists.{joined}
use Rattle.lists.proofs.Joined.{joined-add, joined-split}
use Rattle.trip.specs.declared.Trip.{Trip}
use Rattle.layout.specs.Words.{entry_words, words, rows}
use Rattle.layout.proofs.Rows.{whole, whole-rest, length-rows, rows_append, words-rows, words_append, words-length, words-add}

-- whole entries, and then more words
pub rows_of_two : (p q : List ℕ) → length p % entry_words ≡ 0 → rows (p ++ q) ≡ rows p ++ rows q
rows_of_two p q h = ap (λ (z : List ℕ). rows (z ++ q)) (sym (words-rows p h)) ∙ rows_append (rows p) q

module _ (n : ℕ) (l : List ℕ) (h : n ≤ length l / entry_words) where
  -- the words of the first n entries
  pub front_length : length (take (entry_words * n) l) ≡ entry_words * n
  front_length = length-take-le (entry_words * n) l (omega arith)

  front-whole : length (take (entry_words * n) l) % entry_words ≡ 0
  front-whole = ap (λ (k : ℕ). k % entry_words) front_length ∙ whole-rest n

  front-rows : length (rows (take (entry_words * n) l)) ≡ n
  front-rows = length-rows (take (entry_words * n) l) ∙ ap (λ (k : ℕ). k / entry_words) front_length ∙ whole n

  -- the first n rows, and the others
  pub rows_split : rows l ≡ rows (take (entry_words * n) l) ++ rows (drop (entry_words * n) l)
  rows_split =
      ap rows (sym (take-append-drop (entry_words * n) l)) ∙ rows_of_two (take (entry_words * n) l) (drop (entry_words * n) l) front-whole

  pub rows_take : take n (rows l) ≡ rows (take (entry_words * n) l)
  rows_take = ap (take n) rows_split ∙ take_at (rows (take (entry_words * n) l)) (rows (drop (entry_words * n) l)) n front-rows

  pub rows_drop : drop n (rows l) ≡ rows (drop (entry_words * n) l)
  rows_drop = ap (drop n) rows_split ∙ drop_at (rows (take (entry_words * n) l)) (rows (drop (entry_words * n) l)) n front-rows

  -- the first n rows are written back as the words that they were
  pub words_take : words (take n (rows l)) ≡ take (entry_words * n) l
  words_take = ap words rows_take ∙ words-rows (take (entry_words * n) l) front-whole

-- the entries a up to c of an arena are those a up to b and b up to c
pub rows_apart : (l : List ℕ) (a b c : ℕ) → a ≤ b → b ≤ c → entry_words * c ≤ length l
    → rows (take (entry_words * c - entry_words * a) (drop (entry_words * a) l))
    ≡ rows (take (entry_words * b - entry_words * a) (drop (entry_words * a) l)) ++ rows
    (take (entry_words * c - entry_words * b) (drop (entry_words * b) l))
rows_apart l a b c h g room =
    let n = entry_words * b - entry_words * a in
    let m = entry_words * c - entry_words * b in
    let later = drop (entry_words * a) l in
    let sum : entry_words * c - entry_words * a ≡ n + m = omega arith in
    let at : entry_words * a + n ≡ entry_words * b = omega arith in
    let rest : drop n later ≡ drop (entry_words * b) l = drop-drop n (entry_words * a) l ∙ ap (λ (k : ℕ). drop k l) at in
    let long : length (take n later) ≡ n = length-take-le n later (rw length-drop (omega arith)) in
    rw (sum, take-add n m later, rest) (rows_of_two (take n later) (take m (drop (entry_words * b) l)) (rw long (omega arith)))

-- ---- lists of trips written one after another

-- the middle one of three, by the words before it and up to its end
words-between : (a b c : List Trip) (z : List ℕ)
    → take (entry_words * length (a ++ b) - entry_words * length a) (drop (entry_words * length a) (words (a ++ (b ++ c)) ++ z)) ≡ words b
words-between a b c z =
    let n : entry_words * length (a ++ b) - entry_words * length a ≡ length (words b) =
    rw (length-append, words-length b) (omega (arith, words-add (length a) (length b))) in
    rw (
      n,
      words_append,
      words_append,
      append_assoc,
      append_assoc,
      drop_at (words a) (words b ++ (words c ++ z)) (entry_words * length a) (words-length a),
    )
    (take_at (words b) (words c ++ z) (length (words b)) refl)

-- the lists j .. j + c - 1 of n, by the words of those before them and up to their end; z are the words after all
pub words-joined : (f : ℕ → List Trip) (n j c : ℕ) (z : List ℕ) → j + c ≤ n
    → take (entry_words * length (joined f (j + c)) - entry_words * length (joined f j))
    (drop (entry_words * length (joined f j)) (words (joined f n) ++ z))
    ≡ words (joined (λ i. f (j + i)) c)
words-joined f n j c z h =
    let some = joined (λ i. f (j + i)) c in
    rw (joined-add f j c, joined-split f j c n h) (words-between (joined f j) some (joined (λ i. f (j + c + i)) (n - (j + c))) z)
