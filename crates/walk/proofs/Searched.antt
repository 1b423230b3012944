-- That a search in a slot finds what is earlier, what is left of it, and that the entries which it cuts off do not match.
use mathlib.Core.Path.{◌≡◌, refl, sym, ap, ◌∙◌}
use mathlib.Core.Bool.{Bool, true, false, cond, true≢false, ◌&&◌, ◌||◌, and-false}
use mathlib.Core.List.{List, [], ◌∷◌, ◌++◌, append-nil}
use Prim.Native.Nat.{ℕ, suc, ◌+◌, ◌-◌, ◌*◌, ◌/◌, ◌%◌, ◌≤◌, ◌<◌}
use native.Mathlib.Omega.{arith}
use lib.Dec.{leb, ltb, eqb}
use lib.ListN.{length, get_or, take, drop, length-drop}
use Rattle.std.proofs.Common.{max}
use lib.Seq.{get_or-take}
use borrow.Author.Tests.{lt-ltb, ltb-true, ltb-false, eqb-true, lt-leb, le-leb}
use Rattle.lists.specs.Lists.{keep}
use Rattle.lists.proofs.Kept.{keep_append, keep-none, keep-after}
use Rattle.ruler.specs.declared.Time.{Time}
use Rattle.ruler.specs.Ruler.{no_later}
use Rattle.trip.specs.declared.Trip.{Trip}
use Rattle.layout.specs.declared.Half.TheVariants.{Originals, Replicas}
use Rattle.layout.specs.Stored.{subdivision_of}
use Rattle.layout.specs.Words.{entry_words, trip_at, words, rows, by_start, by_end, order}
use Rattle.layout.proofs.Rows.{length-rows, get_or_rows, trip_at-drop, whole, whole-rest, rows_words, words-rows}
use Rattle.layout.proofs.RowParts.{rows_split, rows_take, front_length}
use Rattle.plan.specs.declared.bounds.Span.{Span}
use Rattle.plan.specs.declared.bounds.Bounds.{Bounds}
use Rattle.plan.specs.declared.looks.Order.{Order}
use Rattle.plan.specs.declared.looks.Order.TheVariants.{ByStart, ByEnd, Other}
use Rattle.plan.specs.Bounds.{has, inside}
use Rattle.store.specs.Ordered.{InFront, Parted}
use Rattle.walk.specs.Cut.{start_of, end_of, earlier_than, timely, timely_of, few, cut_of, Rises, Ordered}
use Rattle.walk.proofs.LevelSlots.{InTurn}

-- ---- a slot in its order never falls in time

no_later_lem : (a b : ℕ) (c : Bool) → ltb a b || (eqb a b && c) ≡ true → a ≤ b
no_later_lem a b c = go (ltb a b) refl (eqb a b) refl
  where
    go : (p : Bool) → ltb a b ≡ p → (q : Bool) → eqb a b ≡ q → p || (q && c) ≡ true → a ≤ b
    go true l q m e = omega (arith, ltb-true a b l)
    go false l true m e = omega (arith, eqb-true a b m)
    go false l false m e = absurd (true≢false (sym e))

module _ (part : List ℕ) where
  pub starts_rise : (aft : Bool) → InTurn Originals aft part → Rises start_of part
  unfolding order by_start subdivision_of
  starts_rise true w i j h k = no_later_lem _ _ _ (w i j h k)
  starts_rise false w i j h k = no_later_lem _ _ _ (w i j h k)

  pub ends_rise : InTurn Replicas false part → Rises end_of part
  unfolding order by_end subdivision_of
  ends_rise w i j h k = no_later_lem _ _ _ (w i j h k)

-- ---- the search

-- what is earlier than a limit stands in front
module _ (time : Trip → Time) (limit : Time) (part : List ℕ) (rises : Rises time part) where
  pub early_front : InFront (earlier_than time limit) part
  early_front i j h g e =
      let later = ltb-true (time (trip_at part j)).0 limit.0 e in
      lt-ltb (time (trip_at part i)).0 limit.0 (omega (arith, rises i j h g, later))

-- ---- what a test keeps of a list

module _ {A : Type 0} (p : A → Bool) where
  -- all of it, where every value passes
  keep_passes : (d : A) (l : List A) → ((j : ℕ) → j < length l → p (get_or l j d) ≡ true) → keep p l ≡ l
  unfolding keep
  keep_passes d [] h = refl
  keep_passes d (x ∷ l) h = rw (h 0 (omega arith)) (ap (λ (k : List A). x ∷ k) (keep_passes d l (λ j g. h (suc j) (omega arith))))

-- ---- what is cut off

words-between : (lo to : ℕ) → entry_words * to - entry_words * lo ≡ entry_words * (to - lo)
words-between lo to = omega arith

-- the entries from lo up to `to`, where none before them and none after them passes
module _ (t : Trip → Bool) (part : List ℕ) (lo to : ℕ) (a : lo ≤ to) (b : to ≤ length part / entry_words)
    (front : (j : ℕ) → j < lo → t (trip_at part j) ≡ false) (rest : (j : ℕ) → to ≤ j → j < length part / entry_words → t (trip_at part j) ≡ false) where
  abbrev later : List ℕ
  later = drop (entry_words * lo) part

  long : length later / entry_words ≡ length part / entry_words - lo
  long = rw length-drop (omega arith)

  front_fails : keep t (rows (take (entry_words * lo) part)) ≡ []
  front_fails =
      let few = length-rows (take (entry_words * lo) part) ∙ ap (λ (n : ℕ). n / entry_words) (front_length lo part (omega arith)) ∙ whole lo in
      keep-none t (trip_at part 0) (rows (take (entry_words * lo) part)) (λ j h.
      let at : get_or (rows (take (entry_words * lo) part)) j (trip_at part 0) ≡ trip_at part j =
      ap (λ (l : List Trip). get_or l j (trip_at part 0)) (sym (rows_take lo part (omega arith)))
      ∙ get_or-take lo (rows part) j (trip_at part 0) (omega arith)
      ∙ get_or_rows part j (trip_at part 0) (omega arith)
      in
      rw at (front j (omega arith)))

  rest_fails : keep t (rows (drop (entry_words * (to - lo)) later)) ≡ []
  rest_fails =
      let last = drop (entry_words * (to - lo)) later in
      let few : length (rows last) ≡ length part / entry_words - to =
      length-rows last ∙ rw (length-drop, length-drop) (omega arith)
      in
      keep-none t (trip_at part 0) (rows last) (λ j h.
      let at : get_or (rows last) j (trip_at part 0) ≡ trip_at part (lo + ((to - lo) + j)) =
      get_or_rows last j (trip_at part 0) (rw length-rows at h) ∙ trip_at-drop (to - lo) later j ∙ trip_at-drop lo part ((to - lo) + j)
      in
      rw at (rest (lo + ((to - lo) + j)) (omega arith) (omega arith)))

  cut_keeps : keep t (rows (take (entry_words * to - entry_words * lo) (drop (entry_words * lo) part))) ≡ keep t (rows part)
  cut_keeps =
      let size : entry_words * to - entry_words * lo ≡ entry_words * (to - lo) = words-between lo to in
      let middle = rows (take (entry_words * (to - lo)) later) in
      let last = rows (drop (entry_words * (to - lo)) later) in
      let all : keep t (rows part) ≡ keep t (rows (take (entry_words * lo) part)) ++ (keep t middle ++ keep t last) =
      ap (keep t) (rows_split lo part (omega arith))
      ∙ keep_append t (rows (take (entry_words * lo) part)) (rows later)
      ∙ ap (λ (l : List Trip). keep t (rows (take (entry_words * lo) part)) ++ l)
      (ap (keep t) (rows_split (to - lo) later (rw long (omega arith))) ∙ keep_append t middle last)
      in
      rw (size, all, front_fails, rest_fails, append-nil) refl

  -- and where all between pass, they are what the test keeps
  module _ (mid : (j : ℕ) → lo ≤ j → j < to → t (trip_at part j) ≡ true) where
    abbrev middle : List ℕ
    middle = take (entry_words * (to - lo)) later

    middle_length : length middle ≡ entry_words * (to - lo)
    middle_length = front_length (to - lo) later (rw long (omega arith))

    all_pass : keep t (rows middle) ≡ rows middle
    all_pass =
        let few = length-rows middle ∙ ap (λ (n : ℕ). n / entry_words) middle_length ∙ whole (to - lo) in
        keep_passes t (trip_at part 0) (rows middle) (λ j h.
        let at : get_or (rows middle) j (trip_at part 0) ≡ trip_at part (lo + j) =
        ap (λ (l : List Trip). get_or l j (trip_at part 0)) (sym (rows_take (to - lo) later (rw long (omega arith))))
        ∙ get_or-take (to - lo) (rows later) j (trip_at part 0) (omega arith)
        ∙ get_or_rows later j (trip_at part 0) (rw long (omega arith))
        ∙ trip_at-drop lo part j
        in
        rw at (mid (lo + j) (omega arith) (omega arith)))

    pub cut_is : take (entry_words * to - entry_words * lo) (drop (entry_words * lo) part) ≡ words (keep t (rows part))
    cut_is =
        let size : entry_words * to - entry_words * lo ≡ entry_words * (to - lo) = words-between lo to in
        ap (λ (n : ℕ). take n later) size
        ∙ sym (words-rows middle (ap (λ (n : ℕ). n % entry_words) middle_length ∙ whole-rest (to - lo)))
        ∙ ap words (sym all_pass ∙ ap (λ (n : ℕ). keep t (rows (take n later))) (sym size) ∙ cut_keeps)

-- a time before the span, or not before its end, is not one of the span's; and one between is
module _ (time : Trip → Time) (span : Span) (u : Trip) where
  too_early : earlier_than time span.from u ≡ true → timely time span u ≡ false
  unfolding timely has
  too_early e =
      let h = ltb-true (time u).0 span.from.0 e in
      rw (lt-leb span.from.0 (time u).0 h) refl

  too_late : earlier_than time span.until u ≡ false → timely time span u ≡ false
  unfolding timely has
  too_late e = rw e (and-false (no_later span.from (time u)))

  in_time : earlier_than time span.from u ≡ false → earlier_than time span.until u ≡ true → timely time span u ≡ true
  unfolding timely has
  in_time e l =
      let h = ltb-false (time u).0 span.from.0 e in
      rw (le-leb span.from.0 (time u).0 h, l) refl

-- ---- the two searches together

pub within-is : (time : Trip → Time) (span : Span) (part : List ℕ) (lo hi to : ℕ)
    → Parted (earlier_than time span.from) part lo → Parted (earlier_than time span.until) part hi → to ≡ max hi lo
    → take (entry_words * to - entry_words * lo) (drop (entry_words * lo) part) ≡ words (keep (timely time span) (rows part))
within-is time span part lo hi to p q e =
    cut_is (timely time span) part lo to (omega arith) (omega (arith, p.inside, q.inside))
    (λ j h. too_early time span (trip_at part j) (p.front j h)) (λ j h k. too_late time span (trip_at part j) (q.rest j (omega arith) k))
    (λ j h k. in_time time span (trip_at part j) (p.rest j h (omega (arith, q.inside))) (q.front j (omega arith)))

-- a part in the order of a time
pub ordered_by_start : (o : Order) (part : List ℕ) → o ≡ ByStart → Ordered o part → Rises start_of part
ordered_by_start o part e w = rw e at w

pub ordered_by_end : (o : Order) (part : List ℕ) → o ≡ ByEnd → Ordered o part → Rises end_of part
ordered_by_end o part e w = rw e at w

-- an entry whose start, or whose end, is not of its span is not within the bounds
start_outside : (b : Bounds) (u : Trip) → timely start_of b.start u ≡ false → inside b u ≡ false
unfolding timely inside
start_outside b u e = rw e refl

end_outside : (b : Bounds) (u : Trip) → timely end_of b.end u ≡ false → inside b u ≡ false
unfolding timely inside
end_outside b u e = rw e (and-false (has b.start u.start))

-- what is left of a slot has all that passes a test which nothing outside the bounds passes
module _ (t : Trip → Bool) (bounds : Bounds) (part : List ℕ) (bounded : (u : Trip) → inside bounds u ≡ false → t u ≡ false) where
  timely-matches : (time : Trip → Time) (span : Span) → ((u : Trip) → timely time span u ≡ false → inside bounds u ≡ false)
      → keep t (rows (words (keep (timely time span) (rows part)))) ≡ keep t (rows part)
  timely-matches time span outside =
      ap (keep t) (rows_words (keep (timely time span) (rows part)))
      ∙ keep-after t (timely time span) (λ u e. bounded u (outside u e)) (rows part)

  order-matches : (o : Order) → keep t (rows (timely_of o bounds part)) ≡ keep t (rows part)
  order-matches ByStart = timely-matches start_of bounds.start (start_outside bounds)
  order-matches ByEnd = timely-matches end_of bounds.end (end_outside bounds)
  order-matches Other = refl

  pub cut_matches : (o : Order) → keep t (rows (cut_of o bounds part)) ≡ keep t (rows part)
  unfolding cut_of
  cut_matches o = go (leb (length part) (entry_words * few))
    where
      go : (b : Bool) → keep t (rows (cond b part (timely_of o bounds part))) ≡ keep t (rows part)
      go true = refl
      go false = order-matches o
