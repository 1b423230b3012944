-- No id twice, found in a small room: the ids of a class gathered there, ids looked up there by halving, a list whose front was gathered, and
-- all classes together.
use mathlib.Core.Path.{◌≡◌, refl, sym, ap, subst, ◌∙◌}
use mathlib.Core.Bool.{Bool, true, false, cond, not, ◌&&◌, false≢true}
use mathlib.Core.Logic.{inl, inr}
use mathlib.Core.List.{List, [], ◌∷◌, ◌++◌, append_assoc, append-nil}
use mathlib.Core.List.Memᴰ.{head as here}
use mathlib.Core.List.Memᴰ.{not-nil}
use mathlib.Core.List.Memᴰ.{tail as there}
use mathlib.Core.List.{Memᴰ as Mem}
use Prim.Native.Nat.{ℕ, ◌+◌, ◌-◌, ◌*◌, ◌/◌, ◌%◌, ◌≤◌, ◌<◌}
use native.Mathlib.Nat.{div-lt_iff_lt-mul, mul-lt-mul_of_pos_right}
use native.Mathlib.Numerals.{add-one}
use native.Mathlib.Omega.{arith}
use native.Mathlib.Decide.{dec_lt}
use lib.Dec.{T, eqb, eqb→eq, leb}
use lib.ListN.{length, get_or, set, take, drop}
use lib.Seq.{take-suc-set, take-set-le, take_all}
use borrow.Author.Tests.{eq-eqb, ne_eqb, leb-true, leb-false}
use Rattle.lists.specs.Lists.{keep, cons_if, sort, ascending}
use Rattle.lists.proofs.Tests.{of_and, to_and, of_three, to_three, of_or, or_left, or_right, to_T, of_T, of_no_T, of_not, to_not, agree, eq→eqb}
use Rattle.lists.proofs.Members.{none, more, to_keep, pairs_keep, pairs_append, pairs_parts, of_sort, to_sort}
use Rattle.lists.proofs.Halving.{at_mem, mem_at}
use Rattle.lists.proofs.Sorting.{Differ}
use Rattle.trip.specs.declared.Trip.{Trip}
use Rattle.layout.specs.Words.{entry_words, rows}
use Rattle.layout.proofs.Rows.{length-rows}
use Rattle.store.specs.Entries.{word_end, ids}
use Rattle.store.specs.Ids.{climbs, ids_differ, differ, mixer, spread, class_of, in_class, of_class, Gathers, among, apart}
use Rattle.store.proofs.Differing.{rising, every_id, steps_left, steps_over, of_differ, to_differ}

-- ---- a loop over the rows of a part

-- the id at a place of a part
abbrev pub id_at : List ℕ → ℕ → ℕ
id_at l k = get_or l (entry_words * k) 0

module _ (classes class : ℕ) (l : List ℕ) (k : ℕ) where
  row_left : k < length l / entry_words → drop k (ids (rows l)) ≡ id_at l k ∷ drop (k + 1) (ids (rows l))
  row_left h = rw (← every_id l) (steps_left entry_words l k h)

  -- one row more, whose class is c: it is one of this class, or it is not
  module _ (h : k < length l / entry_words) {c : ℕ} (e : c ≡ class_of classes (id_at l k)) where
    pub class_hit : c ≡ class → of_class classes class (rows l) k ≡ id_at l k ∷ of_class classes class (rows l) (k + 1)
    unfolding keep
    class_hit q = rw (row_left h, eq-eqb (class_of classes (id_at l k)) class (sym e ∙ q))

    pub class_miss : (c ≡ class → ⊥) → of_class classes class (rows l) k ≡ of_class classes class (rows l) (k + 1)
    unfolding keep
    class_miss n = rw (row_left h, ne_eqb (class_of classes (id_at l k)) class (λ q. n (e ∙ q)))

  pub class_none : length l / entry_words ≤ k → of_class classes class (rows l) k ≡ []
  unfolding keep
  class_none h = rw (← every_id l, steps_over entry_words l k h)

-- ---- gathered in the first words of a room

module _ (all room rest rest' : List ℕ) (found x : ℕ) (fits : found < length room) (there : all ≡ take found room ++ rest) where
  pub gather_hit : rest ≡ x ∷ rest' → all ≡ take (found + 1) (set room found x) ++ rest'
  gather_hit e = there ∙ rw (e, add-one found, take-suc-set room found x fits) (sym (append_assoc (take found room) (x ∷ []) rest'))

  pub gather_miss : rest ≡ rest' → all ≡ take found (set room found x) ++ rest'
  gather_miss e = there ∙ rw (e, take-set-le found room found x (omega arith))

-- ---- members, as tests

pub to_among : (x : ℕ) (l : List ℕ) → Mem x l → T (among x l)
unfolding among
to_among x [] m = not-nil m
to_among x (y ∷ l) (here e) = or_left (eqb y x) (among x l) (eq→eqb y x (sym e))
to_among x (y ∷ l) (there m) = or_right (eqb y x) (among x l) (to_among x l m)

pub of_among : (x : ℕ) (l : List ℕ) → T (among x l) → Mem x l
unfolding among
of_among x [] t = absurd t
of_among x (y ∷ l) t = elim (of_or (eqb y x) (among x l) t) [
  | inl s ↦ here (sym (eqb→eq y x s))
  | inr s ↦ there (of_among x l s)
]

-- a loop over what is left: none of it is in the room
module _ (room left left' : List ℕ) (x : ℕ) (next : left ≡ x ∷ left') where
  pub apart_more : among x room ≡ false → apart room left' ≡ apart room left
  unfolding apart
  apart_more e = rw (next, e)

  pub apart_stop : among x room ≡ true → apart room left ≡ false
  unfolding apart
  apart_stop e = rw (next, e)

pub apart_none : (room left : List ℕ) → left ≡ [] → apart room left ≡ true
unfolding apart
apart_none room left e = rw e

-- ---- looked up in a room in order

-- where x stands, if it does: one of so many places from low on
pub record Narrowed (x : ℕ) (l : List ℕ) (low width : ℕ) : Type 0 where
  pub some : 1 ≤ width
  pub inside : low + width ≤ length l
  pub only : (j : ℕ) → j < length l → get_or l j 0 ≡ x → (low ≤ j) × (j < low + width)

pub narrow_start : (x : ℕ) (l : List ℕ) (n : ℕ) → 1 ≤ n → length l ≡ n → Narrowed x l 0 n
narrow_start x l n h e = record { some = h; inside = omega (arith, e); only = λ j g q. (omega arith, omega (arith, e)) }

rising_le : (l : List ℕ) → climbs l ≡ true → (i j : ℕ) → i ≤ j → j < length l → get_or l i 0 ≤ get_or l j 0
rising_le l e i j h g = go (dec_lt i j)
  where
    go : Dec (i < j) → get_or l i 0 ≤ get_or l j 0
    go (yes r) = omega (arith, rising l e i j r g)
    go (no r) = let q : i ≡ j = omega arith in rw q (omega arith)

-- what is passed over is no more than the half
pub passed_most : (b : Bool) (r half : ℕ) → r ≡ cond b half 0 → r ≤ half
passed_most true r half e = omega arith
passed_most false r half e = omega arith

module _ (x : ℕ) (l : List ℕ) (low width : ℕ) (w : Narrowed x l low width) where
  -- Half of the places are left: those from the middle on, where what stands there is not above x, else those before it.
  pub narrow_step : climbs l ≡ true → 1 < width
      → Narrowed x l (low + cond (leb (get_or l (low + width / 2) 0) x) (width / 2) 0) (width - width / 2)
  narrow_step e h = go (leb (get_or l (low + width / 2) 0) x) refl
    where
      go : (b : Bool) → leb (get_or l (low + width / 2) 0) x ≡ b → Narrowed x l (low + cond b (width / 2) 0) (width - width / 2)
      go true t = record {
        some = omega arith;
        inside = omega (arith, w.inside);
        only = λ j g q. (up j g q (dec_lt j (low + width / 2)), omega (arith, (w.only j g q).1));
      }
        where
          up : (j : ℕ) → j < length l → get_or l j 0 ≡ x → Dec (j < low + width / 2) → low + width / 2 ≤ j
          up j g q (yes r) =
              absurd (omega (arith, rising l e j (low + width / 2) r (omega (arith, w.inside)), leb-true (get_or l (low + width / 2) 0) x t))
          up j g q (no r) = omega arith
      go false t = record {
        some = omega arith;
        inside = omega (arith, w.inside);
        only = λ j g q. (omega (arith, (w.only j g q).0), down j g q (dec_lt j (low + width / 2)));
      }
        where
          down : (j : ℕ) → j < length l → get_or l j 0 ≡ x → Dec (j < low + width / 2) → j < low + 0 + (width - width / 2)
          down j g q (yes r) = omega arith
          down j g q (no r) = absurd (omega (arith, rising_le l e (low + width / 2) j (omega arith) g, leb-false (get_or l (low + width / 2) 0) x t))

  pub narrow_end : width ≤ 1 → eqb (get_or l low 0) x ≡ among x l
  narrow_end h = agree (eqb (get_or l low 0) x) (among x l) to of
    where
      to : T (eqb (get_or l low 0) x) → T (among x l)
      to t = to_among x l (subst (λ (y : ℕ). Mem y l) (eqb→eq (get_or l low 0) x t) (at_mem 0 l low (omega (arith, w.inside, w.some))))

      of : T (among x l) → T (eqb (get_or l low 0) x)
      of t =
          let m = mem_at 0 x (of_among x l t) in
          let q : m.0 ≡ low = omega (arith, w.only m.0 m.1 m.2) in
          eq→eqb (get_or l low 0) x (ap (λ (j : ℕ). get_or l j 0) (sym q) ∙ m.2)

-- ---- a list whose front was gathered

of_apart : (l k : List ℕ) → T (apart l k) → (y : ℕ) → Mem y k → Mem y l → ⊥
unfolding apart
of_apart l [] t y m n = not-nil m
of_apart l (x ∷ k) t y (here e) n = of_not (among x l) (of_and (not (among x l)) (apart l k) t).0 (to_among x l (rw e at n))
of_apart l (x ∷ k) t y (there m) n = of_apart l k (of_and (not (among x l)) (apart l k) t).1 y m n

to_apart : (l k : List ℕ) → ((y : ℕ) → Mem y k → Mem y l → ⊥) → T (apart l k)
unfolding apart
to_apart l [] h = tt
to_apart l (x ∷ k) h =
    to_and (not (among x l)) (apart l k) (to_not (among x l) (λ t. h x (here refl) (of_among x l t))) (to_apart l k (λ y m. h y (there m)))

-- none stands twice in both together, if none does in either, and none of the second is among the first
pub differ_parts : (l k : List ℕ) → differ (l ++ k) ≡ (differ l && apart (ascending l) k && differ k)
differ_parts l k = agree (differ (l ++ k)) (differ l && apart (ascending l) k && differ k) to of
  where
    to : T (differ (l ++ k)) → T (differ l && apart (ascending l) k && differ k)
    to t =
        let w = pairs_parts l (of_differ (l ++ k) t) in
        to_three (differ l) (apart (ascending l) k) (differ k) (
          to_differ w.0,
          to_apart (ascending l) k (λ y m n. w.2 y y (of_sort leb l y n) m refl),
          to_differ w.1,
        )

    of : T (differ l && apart (ascending l) k && differ k) → T (differ (l ++ k))
    of t =
        let w = of_three (differ l) (apart (ascending l) k) (differ k) t in
        to_differ (pairs_append (of_differ l w.0) (of_differ k w.2)
        (λ x y m n e. of_apart (ascending l) k w.1 y n (to_sort leb l y (rw e at m))))

-- what was left is a, which was gathered, and then what is left now
module _ (before a left : List ℕ) (there : before ≡ a ++ left) where
  parts : differ before ≡ (differ a && apart (ascending a) left && differ left)
  parts = ap differ there ∙ differ_parts a left

  pub front_stop : differ a ≡ false → differ before ≡ false
  front_stop e = rw (parts, e)

  pub front_all : left ≡ [] → differ before ≡ differ a
  front_all e = ap differ (there ∙ ap (λ (l : List ℕ). a ++ l) e ∙ append-nil a)

  pub front_again : (room : List ℕ) → room ≡ ascending a → apart room left ≡ false → differ before ≡ false
  front_again room r e =
      parts ∙ ap (λ (b : Bool). differ a && b && differ left) (ap (λ (l : List ℕ). apart l left) (sym r) ∙ e) ∙ go (differ a)
    where
      go : (b : Bool) → (b && false && differ left) ≡ false
      go true = refl
      go false = refl

  pub front-more : (room : List ℕ) → room ≡ ascending a → differ a ≡ true → apart room left ≡ true → differ left ≡ differ before
  front-more room r e f = rw (parts, e, ← r, f)

pub none_differ : (l : List ℕ) → l ≡ [] → differ l ≡ true
unfolding sort climbs
none_differ l e = rw e

-- a full room is all of what was gathered
pub full-room : (all room left : List ℕ) (found : ℕ) → all ≡ take found room ++ left → found ≡ length room → all ≡ room ++ left
full-room all room left found e f = e ∙ ap (λ (l : List ℕ). l ++ left) (take_all found room (omega arith))

-- and it is full where rows of a part are left
pub full_room : {classes class from found next : ℕ} {room : List ℕ} (l : List ℕ) → Gathers classes class (rows l) from room found next → next < length l / entry_words
    → of_class classes class (rows l) from ≡ room ++ of_class classes class (rows l) next
full_room l g h = full-room _ _ _ _ g.there (g.full (omega (arith, length-rows l)))

-- ---- all classes

class_below : (classes id : ℕ) → 0 < classes → class_of classes id < classes
unfolding class_of spread
class_below classes id h =
    let x = id * mixer % word_end in
    let most : x < word_end = omega arith in
    let product : x * classes < classes * word_end = omega (arith, mul-lt-mul_of_pos_right {m = x} {n = word_end} {k = classes} most h) in
    (div-lt_iff_lt-mul {k = word_end} {x = x * classes} {y = classes} (omega arith)).1 product

-- where in no class an id stands twice, none does at all
classes_differ : (n : ℕ) → 0 < n → (l : List ℕ) → ((c : ℕ) → c < n → Differ (keep (in_class n c) l)) → Differ l
unfolding keep
classes_differ n pos [] h = none
classes_differ n pos (x ∷ l) h =
    more (λ y m (e : x ≡ y). twice y m e (h (class_of n x) (class_below n x pos))) (classes_differ n pos l (λ c b. rest (in_class n c x) (h c b)))
  where
    rest : {k : List ℕ} (b : Bool) → Differ (cons_if b x k) → Differ k
    rest true (more g d) = d
    rest false d = d

    twice : (y : ℕ) → Mem y l → x ≡ y → Differ (cons_if (in_class n (class_of n x) x) x (keep (in_class n (class_of n x)) l)) → ⊥
    twice y m e d = go (in_class n (class_of n x) x) (eq-eqb (class_of n x) (class_of n x) refl) d
      where
        go : (b : Bool) → b ≡ true → Differ (cons_if b x (keep (in_class n (class_of n x)) l)) → ⊥
        go true q (more g d) = g y (to_keep (in_class n (class_of n x)) l y m (eq→eqb (class_of n y) (class_of n x) (ap (class_of n) (sym e)))) e
        go false q d = absurd (false≢true q)

module _ (n : ℕ) (ts : List Trip) where
  pub class_more : (k : ℕ) → ((c : ℕ) → c < k → differ (of_class n c ts 0) ≡ true) → differ (of_class n k ts 0) ≡ true
      → (c : ℕ) → c < k + 1 → differ (of_class n c ts 0) ≡ true
  class_more k h e c b = go (dec_lt c k)
    where
      go : Dec (c < k) → differ (of_class n c ts 0) ≡ true
      go (yes r) = h c r
      go (no r) = let q : c ≡ k = omega arith in rw q e

  pub classes_end : 0 < n → ((c : ℕ) → c < n → differ (of_class n c ts 0) ≡ true) → ids_differ ts ≡ true
  unfolding ids_differ
  classes_end pos h = of_T (differ (ids ts)) (to_differ (classes_differ n pos (ids ts) (λ c b. of_differ (of_class n c ts 0) (to_T (h c b)))))

  pub class_stop : (c : ℕ) → differ (of_class n c ts 0) ≡ false → ids_differ ts ≡ false
  unfolding ids_differ
  class_stop c e =
      of_no_T (differ (ids ts)) (λ t. false≢true (sym e ∙ of_T (differ (of_class n c ts 0)) (to_differ (pairs_keep (in_class n c) (of_differ (ids ts) t)))))
