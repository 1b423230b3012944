-- What an edit does to each slot, and what the answer to a question is made of. Each equation between sorted lists is proved in one way:
-- both sides are in strict order and have the same members.
use mathlib.Core.Path.{◌≡◌, refl, ap, ◌∙◌}
use mathlib.Core.Bool.{Bool, true, false, cond, not}
use mathlib.Core.List.Memᴰ.{head as here}
use mathlib.Core.List.Memᴰ.{not-nil}
use mathlib.Core.List.Memᴰ.{tail as there}
use mathlib.Core.List.{List, [], ◌∷◌, map, Memᴰ as Mem}
use Prim.Native.Nat.{ℕ, ◌*◌, ◌/◌, ◌≤◌}
use lib.ListN.{length}
use lib.Dec.{ltb, eqb}
use Rattle.lists.specs.Lists.{cons_if, keep, insert, sort}
use Rattle.lists.proofs.Joined.{joined_le}
use Rattle.lists.proofs.Members.{In, none, more, keep-length, of_keep, to_keep, keep_in, of_sort, to_sort, pairs_keep}
use Rattle.lists.proofs.Sorting.{Sorted, Differ, below, differ-apart, unique, sorted_sort, ascending-below, ascending-same}
use Rattle.ruler.specs.Ruler.{Scale}
use Rattle.trip.specs.declared.Trip.{Trip}
use Rattle.trip.specs.declared.Question.{Question}
use Rattle.layout.specs.declared.Half.{Half}
use Rattle.layout.specs.declared.Subdivision.{Subdivision}
use Rattle.layout.specs.Stored.{belongs}
use Rattle.layout.specs.Words.{order, partitions, level_of, place_of, slot_trips, subdivision_at, slot, entries_before, entries}
use Rattle.layout.specs.Answers.{matches, answer, matching}
use Rattle.layout.specs.Calls.{without}
use Rattle.layout.proofs.RowOrder.{Distinct, slot-order, distinct_apart}

-- ---- an addition: the slots that the trip belongs in get it, in its place

pub slot_trips-add : (s : Scale) (d : Subdivision) (L i : ℕ) (t : Trip) (ts : List Trip)
    → slot_trips s d L i (t ∷ ts) ≡ cond (belongs s d L i t) (insert (order d) t (slot_trips s d L i ts)) (slot_trips s d L i ts)
unfolding slot_trips keep sort
slot_trips-add s d L i t ts = go (belongs s d L i t)
  where
    go : (b : Bool) → sort (order d) (cons_if b t (keep (belongs s d L i) ts))
        ≡ cond b (insert (order d) t (sort (order d) (keep (belongs s d L i) ts))) (sort (order d) (keep (belongs s d L i) ts))
    go true = refl
    go false = refl

-- ---- a removal: every slot loses the trip

pub slot_trips-without : (s : Scale) (d : Subdivision) (L i id : ℕ) (ts : List Trip) → Distinct ts
    → slot_trips s d L i (without id ts) ≡ without id (slot_trips s d L i ts)
unfolding slot_trips without
slot_trips-without s d L i id ts u =
    let b = belongs s d L i in
    let p : Trip → Bool = λ t. not (eqb t.id id) in
    let o = order d in
    unique (slot-order d) (sorted_sort (slot-order d) (distinct_apart d (pairs_keep b (pairs_keep p u))))
    (pairs_keep p (sorted_sort (slot-order d) (distinct_apart d (pairs_keep b u))))
    (λ z m.
    let v = of_keep b (keep p ts) z (of_sort o _ z m) in
    let w = of_keep p ts z v.0 in
    to_keep p _ z (to_sort o _ z (to_keep b ts z w.0 v.1)) w.1)
    (λ z m.
    let v = of_keep p (sort o (keep b ts)) z m in
    let w = of_keep b ts z (of_sort o _ z v.0) in
    to_sort o _ z (to_keep b _ z (to_keep p ts z w.0 v.1) w.1))

-- so no half has more entries
pub entries-without : (s : Scale) (h : Half) (id : ℕ) (ts : List Trip) → Distinct ts → length (entries s h (without id ts)) ≤ length (entries s h ts)
unfolding entries entries_before slot without
entries-without s h id ts u = joined_le (slot s h (without id ts)) (slot s h ts) (2 * partitions s.m) (λ k.
    let w = subdivision_at h k in
    let L = level_of s.m (k / 2) in
    let i = place_of s.m (k / 2) in
    rw (slot_trips-without s w L i id ts u) (keep-length (λ (t : Trip). not (eqb t.id id)) (slot_trips s w L i ts)))

-- ---- the answer: ids in ascending order, whatever the rows' order

abbrev pub id_of : Trip → ℕ
id_of t = t.id

pub of_ids : (ts : List Trip) (i : ℕ) → Mem i (map id_of ts) → (t : Trip) × Mem t ts × (i ≡ t.id)
of_ids [] i m = absurd (not-nil m)
of_ids (t ∷ ts) i (here e) = (t, here refl, e)
of_ids (t ∷ ts) i (there m) = let w = of_ids ts i m in (w.0, there w.1, w.2)

pub to_ids : (ts : List Trip) (t : Trip) → Mem t ts → Mem t.id (map id_of ts)
to_ids [] t m = elim m [ ]
to_ids (u ∷ ts) t (here e) = here (ap id_of e)
to_ids (u ∷ ts) t (there m) = there (to_ids ts t m)

pub ids-differ : {ts : List Trip} → Distinct ts → Differ (map id_of ts)
ids-differ none = none
ids-differ (more {x = t} {l = ts} h d) = more (λ i m e. let w = of_ids ts i m in h w.0 w.1 (e ∙ w.2)) (ids-differ d)

pub ids_in : {ts us : List Trip} → In ts us → In (map id_of ts) (map id_of us)
ids_in {ts} {us} h i m = let w = of_ids ts i m in rw w.2 (to_ids us w.0 (h w.0 w.1))

pub matches_distinct : (q : Question) {ts : List Trip} → Distinct ts → Distinct (matches q ts)
unfolding matches
matches_distinct q d = pairs_keep (matching q) d

-- "lists exactly the right ids, each once, ascending"
pub answer_ascends : (q : Question) (ts : List Trip) → Distinct ts → Sorted ltb (answer q ts)
unfolding answer
answer_ascends q ts d =
    let n = ids-differ (matches_distinct q d) in
    rw (ascending-below n) (sorted_sort below (differ-apart n))

pub answer-same : (q : Question) (ts us : List Trip) → Distinct ts → Distinct us → In ts us → In us ts → answer q ts ≡ answer q us
unfolding answer matches
answer-same q ts us d e f g =
    let p = matching q in
    ascending-same (ids-differ (matches_distinct q d)) (ids-differ (matches_distinct q e)) (ids_in (keep_in p f)) (ids_in (keep_in p g))
