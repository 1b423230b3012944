-- The place of a trip in a slot that is in order: the search by halving in its rows, and what the place is good for.
use mathlib.Core.Path.{◌≡◌, sym, ap, subst}
use mathlib.Core.Bool.{Bool, true, false, not}
use mathlib.Core.List.{List, Memᴰ as Mem}
use Prim.Native.Nat.{ℕ, ◌+◌, ◌/◌, ◌≤◌, ◌<◌}
use native.Mathlib.Omega.{arith}
use lib.Dec.{eqb}
use lib.ListN.{length, get_or}
use borrow.Author.Tests.{eqb-true, eq-eqb, not-false}
use Rattle.lists.specs.Lists.{keep, insert}
use Rattle.lists.specs.Sifting.{InOrder}
use Rattle.lists.proofs.Members.{keep-length}
use Rattle.lists.proofs.Sorting.{Sorted}
use Rattle.lists.proofs.Halving.{Between, Falls, between_start, between_up, between_down, between_end, front_falls, insert_at, found_at, remove_at}
use Rattle.trip.specs.declared.Trip.{Trip}
use Rattle.layout.specs.declared.Subdivision.{Subdivision}
use Rattle.layout.specs.Words.{entry_words, trip_at, order, rows}
use Rattle.layout.specs.Calls.{without}
use Rattle.layout.proofs.RowOrder.{OtherId, Distinct, slot-order, order-apart}
use Rattle.layout.proofs.SlotMembers.{same_id}
use Rattle.layout.proofs.Rows.{length-rows, get_or_rows}
use Rattle.store.specs.Slots.{inserted, removed}
use Rattle.store.specs.Ordered.{preceding, no_trip, InFront, Parted}

-- ---- the search

-- the rows before low pass a test, and those from high on do not
abbrev pub Meeting : List ℕ → (Trip → Bool) → (low high : ℕ) → Type 0
Meeting part test low high = Between no_trip test (rows part) low high

module _ (part : List ℕ) (test : Trip → Bool) where
  row : (k : ℕ) → k < length part / entry_words → get_or (rows part) k no_trip ≡ trip_at part k
  row k h = get_or_rows part k no_trip h

  pub search_start : Meeting part test 0 (length part / entry_words)
  search_start = subst (Meeting part test 0) (length-rows part) (between_start no_trip test (rows part))

  module _ (front : InFront test part) where
    falls : Falls no_trip test (rows part)
    falls i j h g e =
        let there : j < length part / entry_words = rw length-rows at g in
        rw (row i (omega arith)) (front i j h there (rw (row j there) at e))

    module _ (low high mid : ℕ) (w : Meeting part test low high) (a : low ≤ mid) (b : mid < high) where
      here : get_or (rows part) mid no_trip ≡ trip_at part mid
      here = row mid (rw length-rows at inside)
        where
          inside : mid < length (rows part)
          inside = omega (arith, w.inside)

      pub search_up : test (trip_at part mid) ≡ true → Meeting part test (mid + 1) high
      search_up e = between_up no_trip test (rows part) falls low high mid w a b (rw here e)

      pub search_down : test (trip_at part mid) ≡ false → Meeting part test low mid
      search_down e = between_down no_trip test (rows part) falls low high mid w a b (rw here e)

  pub search_end : (low high : ℕ) → high ≤ low → Meeting part test low high → Parted test part low
  search_end low high h w = record {
    inside = omega (arith, w.inside, w.meet, length-rows part);
    front = λ j l. let there : j < length part / entry_words = omega (arith, w.inside, w.meet, length-rows part) in rw (row j there) at (w.low j l);
    rest = λ j l m. rw (row j m) at (w.high j (omega arith) (rw length-rows m));
  }

  pub parted_keeps : (n : ℕ) → Parted test part n → length (keep test (rows part)) ≡ n
  parted_keeps n w = between_end no_trip test (rows part) n n (omega arith) (record {
    meet = omega arith;
    inside = rw length-rows w.inside;
    low = λ j l. rw (row j (omega (arith, w.inside))) (w.front j l);
    high = λ j l m. let there : j < length part / entry_words = rw length-rows at m in rw (row j there) (w.rest j l there);
  })

-- what comes before a trip stands in front, in a slot that is in order
pub before_front : (part : List ℕ) (d : Subdivision) (t : Trip) → InOrder (order d) no_trip (rows part) (length (rows part))
    → InFront (λ (u : Trip). order d u t) part
before_front part d t s i j h g e =
    let at : (k : ℕ) → k < length part / entry_words → get_or (rows part) k no_trip ≡ trip_at part k = λ k l. get_or_rows part k no_trip l in
    rw (at i (omega arith)) at (front_falls (slot-order d) t no_trip (rows part) s i j h (rw length-rows g) (rw (at j g) e))

pub place_parted : (part : List ℕ) (d : Subdivision) (t : Trip) (n : ℕ) → Parted (λ (u : Trip). order d u t) part n → n ≡ preceding d t (rows part)
unfolding preceding
place_parted part d t n w = sym (parted_keeps part (λ (u : Trip). order d u t) n w)

-- ---- what the place is good for

module _ (d : Subdivision) (t : Trip) (l : List Trip) where
  pub place_most : preceding d t l ≤ length l
  unfolding preceding
  place_most = keep-length (λ (u : Trip). order d u t) l

  -- an edit puts a new trip in there
  pub insert_place : Sorted (order d) l → ((u : Trip) → Mem u l → OtherId t u) → insert (order d) t l ≡ inserted (preceding d t l) t l
  unfolding preceding
  insert_place s n = insert_at (slot-order d) t s (λ u m. order-apart d t u (n u m))

  -- a check finds a trip there, or nowhere
  pub found_place : Sorted (order d) l → Mem t l → (preceding d t l < length l) × (get_or l (preceding d t l) no_trip ≡ t)
  unfolding preceding
  found_place s m = found_at (slot-order d) t no_trip s m

  -- an edit takes a trip out there
  pub remove_place : Sorted (order d) l → Distinct l → Mem t l → removed (preceding d t l) l ≡ without t.id l
  unfolding preceding without
  remove_place s n m =
      let q : Trip → Bool = λ u. not (eqb u.id t.id) in
      remove_at (slot-order d) t q (ap not (eq-eqb t.id t.id (λ i. t.id))) s
      (λ u k e. same_id n u t k m (eqb-true u.id t.id (not-false (eqb u.id t.id) e))) m
