-- A gap of one entry: that it is opened and closed by one copy within the list, and what opening and closing do to words with a seam.
use mathlib.Core.Path.{◌≡◌, sym, ap, ◌∙◌}
use mathlib.Core.List.{List, ◌∷◌, ◌++◌, append_assoc}
use Prim.Native.Nat.{ℕ, suc, ◌+◌, ◌-◌, ◌*◌, ◌≤◌, ◌<◌}
use native.Mathlib.Omega.{arith}
use lib.ListN.{length, get_or, take, drop, replicate, length-append, length-drop, take-append-drop}
use lib.Seq.{slice, paste, length-slice, length-take-le}
use lib.Seq.{take_at, drop_at, take-append-add, split_at}
use borrow.Rule.Slice.PartMut.{put_mid, Post-is}
use Rattle.std.proofs.lemmas.List.{drop-take}
use Rattle.trip.specs.declared.Trip.{Trip}
use Rattle.layout.specs.Words.{entry_words, trip_words, words}
use Rattle.layout.proofs.Rows.{words-add, times_one_more, words_cons, words_append, words-length, trip_words-length}
use Rattle.store.specs.Entries.{put}
use Rattle.store.specs.Passes.{opened, closed}
use Rattle.store.specs.Slots.{inserted, removed}
use Rattle.store.specs.Ordered.{no_trip}
use Rattle.store.proofs.Entries.{put_seam}

-- ---- the words that are moved, as one copy within the list

moved : (from end : ℕ) (l : List ℕ) → from ≤ end → take (end - from) (drop from l) ≡ slice from end l
moved from end l h = let e : from + (end - from) ≡ end = omega arith in
    sym (drop-take from (end - from) l) ∙ ap (λ (n : ℕ). slice from n l) e

pub copied_up : (at used : ℕ) (l : List ℕ) → at ≤ used → paste l (at + entry_words) (drop at l) (used - at) ≡ opened at used l
unfolding opened
copied_up at used l h =
    let end : at + entry_words + (used - at) ≡ used + entry_words = omega arith in
    rw (moved at used l h, end) (append_assoc (take (at + entry_words) l) (slice at used l) (drop (used + entry_words) l))

-- the words that the last entry leaves are cleared, as a part that is lent
pub copied_down : (at used n : ℕ) (l x k : List ℕ) → at + entry_words ≤ used → used ≤ length l → n ≡ entry_words
    → x ≡ paste l at (drop (at + entry_words) l) (used - (at + entry_words)) → k ≡ replicate entry_words 0
    → put_mid (used - entry_words) n x k ≡ closed at used l
unfolding closed
copied_down at used n l x k h g e p c =
    let m = slice (at + entry_words) used l in
    let end : at + (used - (at + entry_words)) ≡ used - entry_words = omega arith in
    let long : length (take at l ++ m) ≡ used - entry_words =
    length-append (take at l) m ∙ omega (arith, length-take-le at l (omega arith), length-slice (at + entry_words) used l g) in
    let rest : drop entry_words (drop (used - entry_words) l) ≡ drop used l =
    let e : used - (used - entry_words) ≡ entry_words = omega arith in rw e at (Post-is (used - entry_words) used l (omega arith)) in
    rw (
      p,
      moved (at + entry_words) used l h,
      end,
      e,
      c,
      take_at (take at l ++ m) (drop (used - entry_words) l) (used - entry_words) long,
      drop_at (take at l ++ m) (drop (used - entry_words) l) (used - entry_words) long,
      rest,
    ) (append_assoc (take at l) m (replicate entry_words 0 ++ drop used l))

-- ---- words with a seam: p stands before the place, m from it to the end, q after the end

pub opened_seam : (p m g q : List ℕ) (at used : ℕ) → length p ≡ at → at + length m ≡ used → length g ≡ entry_words
    → opened at used (p ++ (m ++ (g ++ q))) ≡ p ++ (take entry_words (m ++ (g ++ q)) ++ (m ++ q))
unfolding opened
opened_seam p m g q at used first last size =
    let l = p ++ (m ++ (g ++ q)) in
    let pm : length (p ++ m) ≡ used = length-append p m ∙ omega arith in
    let pmg : length (p ++ m ++ g) ≡ used + entry_words = length-append (p ++ m) g ∙ omega arith in
    let seam : l ≡ (p ++ m) ++ (g ++ q) = sym (append_assoc p m (g ++ q)) in
    let seam₂ : l ≡ (p ++ m ++ g) ++ q = seam ∙ sym (append_assoc (p ++ m) g q) in
    let front : take (at + entry_words) l ≡ p ++ take entry_words (m ++ (g ++ q)) = rw (← first) (take-append-add p (m ++ (g ++ q)) entry_words) in
    let mid : drop at (take used l) ≡ m =
    ap (λ (x : List ℕ). drop at (take used x)) seam ∙ ap (drop at) (take_at (p ++ m) (g ++ q) used pm) ∙ drop_at p m at first in
    let back : drop (used + entry_words) l ≡ q = ap (drop (used + entry_words)) seam₂ ∙ drop_at (p ++ m ++ g) q (used + entry_words) pmg in
    rw (front, mid, back) (append_assoc p (take entry_words (m ++ (g ++ q))) (m ++ q))

pub closed_seam : (p g m q : List ℕ) (at used : ℕ) → length p ≡ at → length g ≡ entry_words → at + entry_words + length m ≡ used
    → closed at used (p ++ (g ++ (m ++ q))) ≡ p ++ (m ++ (replicate entry_words 0 ++ q))
unfolding closed
closed_seam p g m q at used first size last =
    let l = p ++ (g ++ (m ++ q)) in
    let pg : length (p ++ g) ≡ at + entry_words = length-append p g ∙ omega arith in
    let all : length (p ++ g ++ m) ≡ used = length-append (p ++ g) m ∙ omega arith in
    let seam : l ≡ (p ++ g ++ m) ++ q = sym (append_assoc p g (m ++ q)) ∙ sym (append_assoc (p ++ g) m q) in
    let front : take at l ≡ p = take_at p (g ++ (m ++ q)) at first in
    let mid : drop (at + entry_words) (take used l) ≡ m =
    ap (λ (x : List ℕ). drop (at + entry_words) (take used x)) seam ∙ ap (drop (at + entry_words)) (take_at (p ++ g ++ m) q used all)
    ∙ drop_at (p ++ g) m (at + entry_words) pg in
    let back : drop used l ≡ q = ap (drop used) seam ∙ drop_at (p ++ g ++ m) q used all in
    rw (front, mid, back)

-- ---- entries: one put in at place j, and one taken out

front-words : (j : ℕ) (ts : List Trip) → j ≤ length ts → length (words (take j ts)) ≡ entry_words * j
front-words j ts h = words-length (take j ts) ∙ ap (λ (n : ℕ). entry_words * n) (length-take-le j ts h)

pub words-inserted : (j : ℕ) (t : Trip) (ts : List Trip) (g z : List ℕ) → j ≤ length ts → length g ≡ entry_words
    → put j t (opened (entry_words * j) (entry_words * length ts) (words ts ++ (g ++ z))) ≡ words (inserted j t ts) ++ z
words-inserted j t ts g z h size =
    let p = words (take j ts) in
    let m = words (drop j ts) in
    let first = front-words j ts h in
    let whole : words ts ++ (g ++ z) ≡ p ++ (m ++ (g ++ z)) =
    ap (λ (x : List Trip). words x ++ (g ++ z)) (sym (take-append-drop j ts))
    ∙ ap (λ (x : List ℕ). x ++ (g ++ z)) (words_append (take j ts) (drop j ts)) ∙ append_assoc p m (g ++ z) in
    let split : length ts ≡ j + (length ts - j) = omega arith in
    let last : entry_words * j + length m ≡ entry_words * length ts =
    ap (λ (n : ℕ). entry_words * j + n) (words-length (drop j ts) ∙ ap (λ (n : ℕ). entry_words * n) (length-drop j ts))
    ∙ sym (words-add j (length ts - j)) ∙ ap (λ (n : ℕ). entry_words * n) (sym split) in
    let long : entry_words ≤ length (m ++ (g ++ z)) = rw (length-append, length-append) (omega arith) in
    let hole = length-take-le entry_words (m ++ (g ++ z)) long in
    let with-trip : words (inserted j t ts) ≡ p ++ (trip_words t ++ m) =
    words_append (take j ts) (t ∷ drop j ts) ∙ ap (λ (x : List ℕ). p ++ x) (words_cons t (drop j ts)) in
    ap (λ (x : List ℕ). put j t (opened (entry_words * j) (entry_words * length ts) x)) whole
    ∙ ap (put j t) (opened_seam p m g z (entry_words * j) (entry_words * length ts) first last size)
    ∙ put_seam p (take entry_words (m ++ (g ++ z))) (m ++ z) j t first hole
    ∙ sym (ap (λ (x : List ℕ). x ++ z) with-trip ∙ simp append_assoc)

pub words-removed : (j : ℕ) (ts : List Trip) (z : List ℕ) → j < length ts
    → closed (entry_words * j) (entry_words * length ts) (words ts ++ z) ≡ words (removed j ts) ++ (replicate entry_words 0 ++ z)
words-removed j ts z h =
    let p = words (take j ts) in
    let t = get_or ts j no_trip in
    let m = words (drop (suc j) ts) in
    let first = front-words j ts (omega arith) in
    let whole : words ts ++ z ≡ p ++ (trip_words t ++ (m ++ z)) =
    ap (λ (x : List Trip). words x ++ z) (split_at ts j no_trip h)
    ∙ ap (λ (x : List ℕ). x ++ z) (words_append (take j ts) (t ∷ drop (suc j) ts) ∙ ap (λ (x : List ℕ). p ++ x) (words_cons t (drop (suc j) ts)))
    ∙ simp append_assoc in
    let split : length ts ≡ suc j + (length ts - suc j) = omega arith in
    let rest : length m ≡ entry_words * (length ts - suc j) =
    words-length (drop (suc j) ts) ∙ ap (λ (n : ℕ). entry_words * n) (length-drop (suc j) ts) in
    let last : entry_words * j + entry_words + length m ≡ entry_words * length ts =
    omega (arith, rest, times_one_more j, words-add (suc j) (length ts - suc j), ap (λ (n : ℕ). entry_words * n) split) in
    ap (closed (entry_words * j) (entry_words * length ts)) whole
    ∙ closed_seam p (trip_words t) m z (entry_words * j) (entry_words * length ts) first (trip_words-length t) last
    ∙ sym (append_assoc p m (replicate entry_words 0 ++ z))
    ∙ ap (λ (x : List ℕ). x ++ (replicate entry_words 0 ++ z)) (sym (words_append (take j ts) (drop (suc j) ts)))
