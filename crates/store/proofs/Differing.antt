-- No id twice: the ids of distinct trips climb in ascending order, and only these.
use mathlib.Core.Path.{◌≡◌, refl, sym, ap, ◌∙◌}
use mathlib.Core.Bool.{Bool, true, false, cond}
use mathlib.Core.List.Memᴰ.{head as here}
use mathlib.Core.List.Memᴰ.{not-nil}
use mathlib.Core.List.Memᴰ.{tail as there}
use mathlib.Core.List.{List, [], ◌∷◌, Memᴰ as Mem}
use Prim.Native.Nat.{ℕ, ◌+◌, ◌*◌, ◌/◌, ◌≤◌, ◌<◌}
use native.Mathlib.Nat.{one-mul, div-one}
use native.Mathlib.Numerals.{add-one}
use native.Mathlib.Omega.{arith}
use lib.Dec.{T, leb, ltb, ltb→lt}
use lib.ListN.{length, get_or, drop, drop_of_length-le}
use lib.Seq.{drop-cons, ext_get_or}
use borrow.Author.Tests.{lt-ltb, le-ltb}
use Rattle.lists.specs.Lists.{insert, sort, ascending, up_to}
use Rattle.lists.proofs.Tests.{of_and, to_and, to_T, of_T}
use Rattle.lists.proofs.Members.{none, more, to_insert, to_sort}
use Rattle.lists.proofs.Sorting.{Sorted, Differ, below, differ-apart, ascending-below, sorted_sort}
use Rattle.lists.proofs.Halving.{in_order}
use Rattle.lists.proofs.Upto.{length-up_to, get_or_up_to}
use Rattle.trip.specs.declared.Trip.{Trip}
use Rattle.layout.specs.Words.{entry_words, rows}
use Rattle.layout.proofs.RowOrder.{Distinct}
use Rattle.store.specs.Entries.{ids}
use Rattle.store.proofs.Entries.{ids-rows}
use Rattle.store.specs.Ids.{climbs_from, climbs, every_step, ids_differ, differ}

-- ---- words that climb are in strict order

climbs_above : (x : ℕ) (l : List ℕ) → T (climbs_from x l) → (z : ℕ) → Mem z l → T (ltb x z)
unfolding climbs_from
climbs_above x [] t z m = absurd (not-nil m)
climbs_above x (y ∷ l) t z (here e) = rw e (of_and (ltb x y) (climbs_from y l) t).0
climbs_above x (y ∷ l) t z (there m) = let w = of_and (ltb x y) (climbs_from y l) t in below.trans x y z w.0 (climbs_above y l w.1 z m)

from_sorted : (x : ℕ) (l : List ℕ) → T (climbs_from x l) → Sorted ltb (x ∷ l)
unfolding climbs_from
from_sorted x [] t = more (λ y m. absurd (not-nil m)) none
from_sorted x (y ∷ l) t = more (climbs_above x (y ∷ l) t) (from_sorted y l (of_and (ltb x y) (climbs_from y l) t).1)

pub climbs_sorted : (l : List ℕ) → T (climbs l) → Sorted ltb l
unfolding climbs
climbs_sorted [] t = none
climbs_sorted (x ∷ l) t = from_sorted x l t

sorted_from : {x : ℕ} {l : List ℕ} → Sorted ltb (x ∷ l) → T (climbs_from x l)
unfolding climbs_from
sorted_from {l = []} s = tt
sorted_from {x} {l = y ∷ l} (more a s) = to_and (ltb x y) (climbs_from y l) (a y (here refl)) (sorted_from s)

pub sorted_climbs : {l : List ℕ} → Sorted ltb l → T (climbs l)
unfolding climbs
sorted_climbs {l = []} s = tt
sorted_climbs {l = x ∷ l} s = sorted_from s

pub rising : (l : List ℕ) → climbs l ≡ true → (i j : ℕ) → i < j → j < length l → get_or l i 0 < get_or l j 0
rising l e i j h g = ltb→lt (get_or l i 0) (get_or l j 0) (to_T (in_order 0 ltb (climbs_sorted l (to_T e)) i j h g))

-- ---- words in even steps

-- one word at a time they are all the words
pub every_word : (l : List ℕ) → every_step 1 l ≡ l
unfolding every_step
every_word l = ext_get_or 0 (up_to f (length l / 1)) l long same
  where
    f : ℕ → ℕ
    f k = get_or l (1 * k) 0

    long : length (up_to f (length l / 1)) ≡ length l
    long = length-up_to f (length l / 1) ∙ div-one (length l)

    same : (i : ℕ) → i < length (up_to f (length l / 1)) → get_or (up_to f (length l / 1)) i 0 ≡ get_or l i 0
    same i h = get_or_up_to f (length l / 1) i 0 (omega (arith, length-up_to f (length l / 1))) ∙ ap (λ (j : ℕ). get_or l j 0) (one-mul i)

-- an entry at a time they are the ids
pub every_id : (l : List ℕ) → every_step entry_words l ≡ ids (rows l)
unfolding every_step
every_id l = sym (ids-rows l)

-- ---- the loop over them

climbs-none : (xs : List ℕ) → length xs ≡ 0 → climbs xs ≡ true
unfolding climbs
climbs-none [] h = refl
climbs-none (x ∷ xs) h = absurd (omega arith)

climbs_first : (xs : List ℕ) → 0 < length xs → climbs_from (get_or xs 0 0) (drop 1 xs) ≡ climbs xs
unfolding climbs
climbs_first [] h = absurd (omega arith)
climbs_first (x ∷ xs) h = refl

module _ (key : ℕ → ℕ) (n : ℕ) where
  pub keys_none : n ≡ 0 → climbs (up_to key n) ≡ true
  keys_none h = climbs-none (up_to key n) (length-up_to key n ∙ h)

  pub keys_first : 0 < n → climbs_from (key 0) (drop 1 (up_to key n)) ≡ climbs (up_to key n)
  keys_first h =
      ap (λ (x : ℕ). climbs_from x (drop 1 (up_to key n))) (sym (get_or_up_to key n 0 0 h)) ∙ climbs_first (up_to key n) (rw length-up_to h)

  module _ (i : ℕ) where
    pub keys_left : i < n → drop i (up_to key n) ≡ key i ∷ drop (i + 1) (up_to key n)
    keys_left h = drop-cons (up_to key n) i 0 (rw length-up_to h) ∙ rw (add-one, get_or_up_to key n i 0 h)

    pub keys_over : n ≤ i → drop i (up_to key n) ≡ []
    keys_over h = let g : length (up_to key n) ≤ i = rw length-up_to h in drop_of_length-le (up_to key n) g

    pub keys_more : (last : ℕ) → i < n → last < key i → climbs_from (key i) (drop (i + 1) (up_to key n)) ≡ climbs_from last (drop i (up_to key n))
    unfolding climbs_from
    keys_more last h e = rw (keys_left h, lt-ltb last (key i) e)

    pub keys_stop : (last : ℕ) → i < n → key i ≤ last → climbs_from last (drop i (up_to key n)) ≡ false
    unfolding climbs_from
    keys_stop last h e = rw (keys_left h, le-ltb last (key i) e)

    pub keys_end : (last : ℕ) → n ≤ i → climbs_from last (drop i (up_to key n)) ≡ true
    unfolding climbs_from
    keys_end last h = rw (keys_over h)

module _ (step : ℕ) (l : List ℕ) (i : ℕ) where
  pub steps_left : i < length l / step → drop i (every_step step l) ≡ get_or l (step * i) 0 ∷ drop (i + 1) (every_step step l)
  unfolding every_step
  steps_left h = keys_left (λ (k : ℕ). get_or l (step * k) 0) (length l / step) i h

  pub steps_over : length l / step ≤ i → drop i (every_step step l) ≡ []
  unfolding every_step
  steps_over h = keys_over (λ (k : ℕ). get_or l (step * k) 0) (length l / step) i h

-- ---- ids that differ

of_ids : (ts : List Trip) (i : ℕ) → Mem i (ids ts) → (t : Trip) × Mem t ts × (i ≡ t.id)
of_ids [] i m = absurd (not-nil m)
of_ids (t ∷ ts) i (here e) = (t, here refl, e)
of_ids (t ∷ ts) i (there m) = let w = of_ids ts i m in (w.0, there w.1, w.2)

to_ids : (ts : List Trip) (t : Trip) → Mem t ts → Mem t.id (ids ts)
to_ids [] t m = elim m [ ]
to_ids (u ∷ ts) t (here e) = here (ap (λ (x : Trip). x.id) e)
to_ids (u ∷ ts) t (there m) = there (to_ids ts t m)

ids-differ : {ts : List Trip} → Distinct ts → Differ (ids ts)
ids-differ none = none
ids-differ (more {x = t} {l = ts} h d) = more (λ i m e. let w = of_ids ts i m in h w.0 w.1 (e ∙ w.2)) (ids-differ d)

differ-ids : (ts : List Trip) → Differ (ids ts) → Distinct ts
differ-ids [] d = none
differ-ids (t ∷ ts) (more h d) = more (λ u m. h u.id (to_ids ts u m)) (differ-ids ts d)

-- numbers that differ in ascending order differ
insert-differ : (x : ℕ) (l : List ℕ) → Differ (insert leb x l) → ((y : ℕ) → Mem y l → x ≡ y → ⊥) × Differ l
unfolding insert
insert-differ x [] d = ((λ y m. absurd (not-nil m)), none)
insert-differ x (y ∷ l) d = go (leb x y) (insert-differ x l) d
  where
    go : (b : Bool) → (Differ (insert leb x l) → ((z : ℕ) → Mem z l → x ≡ z → ⊥) × Differ l)
        → Differ (cond b (x ∷ y ∷ l) (y ∷ insert leb x l)) → ((z : ℕ) → Mem z (y ∷ l) → x ≡ z → ⊥) × Differ (y ∷ l)
    go true ih (more h d) = (h, d)
    go false ih (more h d) =
        let w = ih d in (
          (λ z m. elim m [ here e ↦ λ q. h x (to_insert leb x l x (here refl)) (sym (q ∙ e)) | there n ↦ w.0 z n ]),
          more (λ z m. h z (to_insert leb x l z (there m))) w.1,
        )

sort-differ : (l : List ℕ) → Differ (ascending l) → Differ l
unfolding sort
sort-differ [] d = none
sort-differ (x ∷ l) d =
    let w = insert-differ x (ascending l) d in
    more (λ y m. w.0 y (to_sort leb l y m)) (sort-differ l w.1)

sorted_differ : {l : List ℕ} → Sorted ltb l → Differ l
sorted_differ none = none
sorted_differ (more {x = x} h s) = more (λ y m (e : x ≡ y). let p = ltb→lt x y (h y m) in omega arith) (sorted_differ s)

-- none stands twice, as a test and as a fact
pub of_differ : (l : List ℕ) → T (differ l) → Differ l
of_differ l t = sort-differ l (sorted_differ (climbs_sorted (ascending l) t))

pub to_differ : {l : List ℕ} → Differ l → T (differ l)
to_differ d = rw (ascending-below d) (sorted_climbs (sorted_sort below (differ-apart d)))

-- what climbs as it stands
pub climbs-differ : (l : List ℕ) → climbs l ≡ true → differ l ≡ true
climbs-differ l e = of_T (differ l) (to_differ (sorted_differ (climbs_sorted l (to_T e))))

pub of_ids_differ : (ts : List Trip) → T (ids_differ ts) → Distinct ts
unfolding ids_differ
of_ids_differ ts t = differ-ids ts (of_differ (ids ts) t)

pub to_ids_differ : (ts : List Trip) → Distinct ts → T (ids_differ ts)
unfolding ids_differ
to_ids_differ ts d = to_differ (ids-differ d)
