-- Words told apart by marks: a mark that is set stays set, so that a word whose mark is not set stands nowhere before.
use mathlib.Core.Path.{◌≡◌, refl, sym, ap, ◌∙◌}
use mathlib.Core.Bool.{Bool, true, false, ◌||◌, false≢true}
use mathlib.Core.List.{List, [], ◌∷◌, ◌++◌}
use Prim.Native.Nat.{ℕ, ◌+◌, ◌*◌, ◌/◌, ◌%◌, ◌^◌, ◌≤◌, ◌<◌, max}
use native.Mathlib.Nat.{max-eq_left, div_self}
use native.Mathlib.Numerals.{add-one}
use native.Mathlib.Omega.{arith}
use native.Mathlib.Decide.{ℕ_discrete, dec_lt}
use lib.Dec.{leb, eqb, eqb→eq}
use lib.Bits.{bit_or, or_shr, or_step, or_comm}
use lib.Pow.{pow_pos}
use lib.ListN.{length, get_or, take, drop, take-append-drop, length-set, drop_of_length-le}
use lib.Seq.{take-suc, take_all, drop-cons, get_or-take, get_or-set_same, get_or-set_other, length-take-le}
use borrow.Author.Tests.{eq-eqb}
use Rattle.lists.specs.Lists.{insert, sort, ascending}
use Rattle.lists.proofs.Tests.{agree, to_T, of_no_T}
use Rattle.lists.proofs.Members.{of_sort, to_sort}
use Rattle.lists.proofs.Halving.{mem_at}
use Rattle.store.specs.Ids.{climbs_from, climbs, differ, among}
use Rattle.store.specs.Marks.{word_bits, mark_words, mark_of, marked, with_mark}
use Rattle.store.proofs.Classes.{of_among, to_among, apart_more, apart_stop, apart_none, front_again, front-more, none_differ}

-- ---- marks

-- a bit that is set in one word is set in both joined
or_bit : (a b k : ℕ) → a / 2 ^ k % 2 ≡ 1 → bit_or a b / 2 ^ k % 2 ≡ 1
or_bit a b k e =
    let x = a / 2 ^ k in
    let y = b / 2 ^ k in
    let low : max (x % 2) (y % 2) ≡ 1 = max-eq_left (omega arith) ∙ e in
    let joined : bit_or a b / 2 ^ k ≡ bit_or (x / 2) (y / 2) * 2 + 1 = or_shr a b k ∙ or_step x y ∙ ap (λ (n : ℕ). bit_or (x / 2) (y / 2) * 2 + n) low in
    omega arith

own_bit : (a k : ℕ) → bit_or a (2 ^ k) / 2 ^ k % 2 ≡ 1
own_bit a k = ap (λ (n : ℕ). n / 2 ^ k % 2) (or_comm a (2 ^ k)) ∙ or_bit (2 ^ k) a k (ap (λ (n : ℕ). n % 2) (div_self (pow_pos k)))

module _ (marks : List ℕ) (m : ℕ) (inside : m / word_bits < length marks) where
  abbrev word : ℕ
  word = get_or marks (m / word_bits) 0

  abbrev joined : ℕ
  joined = bit_or word (2 ^ (m % word_bits))

  pub mark_set : marked (with_mark marks m) m ≡ true
  unfolding marked with_mark
  mark_set = rw (get_or-set_same marks (m / word_bits) joined 0 inside) (eq-eqb (joined / 2 ^ (m % word_bits) % 2) 1 (own_bit word (m % word_bits)))

  pub mark_kept : (k : ℕ) → marked marks k ≡ true → marked (with_mark marks m) k ≡ true
  unfolding marked with_mark
  mark_kept k e = go (ℕ_discrete (k / word_bits) (m / word_bits))
    where
      go : Dec (k / word_bits ≡ m / word_bits) → marked (with_mark marks m) k ≡ true
      go (yes q) =
          let old : word / 2 ^ (k % word_bits) % 2 ≡ 1 = ap (λ (n : ℕ). get_or marks n 0 / 2 ^ (k % word_bits) % 2) (sym q) ∙ eqb→eq _ 1 (to_T e) in
          rw (q, get_or-set_same marks (m / word_bits) joined 0 inside) (eq-eqb (joined / 2 ^ (k % word_bits) % 2) 1 (or_bit word (2 ^ (m % word_bits)) (k % word_bits) old))
      go (no q) = rw (get_or-set_other marks (m / word_bits) (k / word_bits) joined 0 q) e

-- ---- words

-- one word more is looked at
pub among_next : (found : Bool) (x : ℕ) (l : List ℕ) (i : ℕ) → i < length l
    → ((found || eqb (get_or l i 0) x) || among x (drop (i + 1) l)) ≡ (found || among x (drop i l))
unfolding among
among_next true x l i h = refl
among_next false x l i h = rw (drop-cons l i 0 h, add-one i)

pub among_end : (found : Bool) (x : ℕ) (l : List ℕ) (i : ℕ) → length l ≤ i → (found || among x (drop i l)) ≡ found
unfolding among
among_end true x l i h = refl
among_end false x l i h = rw (drop_of_length-le l {i = i} h)

among-sort : (x : ℕ) (l : List ℕ) → among x (ascending l) ≡ among x l
among-sort x l =
    agree (among x (ascending l)) (among x l) (λ t. to_among x l (of_sort leb l x (of_among x (ascending l) t)))
    (λ t. to_among x (ascending l) (to_sort leb l x (of_among x l t)))

one_differs : (x : ℕ) → differ (x ∷ []) ≡ true
unfolding sort insert climbs climbs_from
one_differs x = refl

-- The words before i differ, and each of them set its mark.
pub record Told (classes : ℕ) (words marks : List ℕ) (i : ℕ) : Type 0 where
  pub room : length marks ≡ mark_words
  pub once : differ (take i words) ≡ true
  pub left : (j : ℕ) → j < i → marked marks (mark_of classes (get_or words j 0)) ≡ true

pub told-start : (classes : ℕ) (words marks : List ℕ) → length marks ≡ mark_words → Told classes words marks 0
told-start classes words marks e = record { room = e; once = none_differ [] refl; left = λ j h. absurd (omega arith) }

pub mark_inside : (classes id : ℕ) → mark_of classes id < mark_words * word_bits
unfolding mark_of
mark_inside classes id = omega arith

module _ (words : List ℕ) (i : ℕ) (h : i < length words) where
  abbrev id : ℕ
  id = get_or words i 0

  -- a word that stands before
  pub told_stop : among id (take i words) ≡ true → differ words ≡ false
  told_stop e =
      let a = ascending (take i words) in
      let again = apart_stop a (drop i words) _ id (drop-cons words i 0 h) (among-sort id (take i words) ∙ e) in
      front_again words (take i words) (drop i words) (sym (take-append-drop i words)) a refl again

  more-differ : differ (take i words) ≡ true → among id (take i words) ≡ false → differ (take (i + 1) words) ≡ true
  more-differ d e =
      let a = ascending (take i words) in
      let next : take (i + 1) words ≡ take i words ++ (id ∷ []) = ap (λ (n : ℕ). take n words) (add-one i) ∙ take-suc words i 0 h in
      let fresh = sym (apart_more a (id ∷ []) [] id refl (among-sort id (take i words) ∙ e)) ∙ apart_none a [] refl in
      sym (front-more (take (i + 1) words) (take i words) (id ∷ []) next a refl d fresh) ∙ one_differs id

  -- this word has mark m
  module _ (classes : ℕ) (marks : List ℕ) {m : ℕ} (its : m ≡ mark_of classes id) (t : Told classes words marks i) where
    -- it stands nowhere before if its mark is not set
    pub not-marked : marked marks m ≡ false → among id (take i words) ≡ false
    not-marked e = of_no_T (among id (take i words)) (λ a.
        let at = mem_at 0 id (of_among id (take i words) a) in
        let before : at.0 < i = omega (arith, at.1, length-take-le i words (omega arith)) in
        let same : get_or words at.0 0 ≡ id = sym (get_or-take i words at.0 0 before) ∙ at.2 in
        false≢true (sym e ∙ ap (marked marks) (its ∙ ap (mark_of classes) (sym same)) ∙ t.left at.0 before))

    pub told_more : {after : List ℕ} → after ≡ with_mark marks m → among id (take i words) ≡ false → Told classes words after (i + 1)
    unfolding with_mark
    told_more {after} put e = record {
      room = ap length put ∙ length-set marks (m / word_bits) _ ∙ t.room;
      once = more-differ t.once e;
      left = λ j g. go j (dec_lt j i) g;
    }
      where
        inside : m / word_bits < length marks
        inside = omega (arith, mark_inside classes id, t.room)

        go : (j : ℕ) → Dec (j < i) → j < i + 1 → marked after (mark_of classes (get_or words j 0)) ≡ true
        go j (yes r) g = rw put (mark_kept marks m inside (mark_of classes (get_or words j 0)) (t.left j r))
        go j (no r) g = let q : j ≡ i = omega arith in rw (q, ← its, put) (mark_set marks m inside)

pub told_end : (classes : ℕ) (words marks : List ℕ) (i : ℕ) → length words ≤ i → Told classes words marks i → differ words ≡ true
told_end classes words marks i h t = ap differ (sym (take_all i words h)) ∙ t.once
