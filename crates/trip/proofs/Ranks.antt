-- Only their order counts: where each of some times is replaced by its rank, the number of them that are before it, every test of two of them, and so every
-- relationship, says what it said.
use mathlib.Core.Path.{◌≡◌, refl, sym, ap, ap₂, ◌∙◌}
use mathlib.Core.Bool.{Bool, not, ◌&&◌}
use mathlib.Core.List.Memᴰ.{head as here}
use mathlib.Core.List.Memᴰ.{tail as there}
use mathlib.Core.List.{List, [], ◌∷◌, Memᴰ as Mem}
use Prim.Native.Nat.{ℕ, ◌≤◌, ◌<◌}
use native.Mathlib.Omega.{arith}
use native.Mathlib.Decide.{dec_lt}
use lib.Dec.{T, not_T, leb→le, le→leb, ltb→lt, nltb→le, lt→ltb, eqb→eq}
use lib.ListN.{length}
use borrow.Author.Tests.{ltb-false, le-ltb}
use Rattle.lists.specs.Lists.{keep}
use Rattle.lists.proofs.Tests.{of_and, to_and, agree, eq→eqb}
use Rattle.lists.proofs.Members.{to_keep, keep-length, keep_shorter}
use Rattle.lists.proofs.Kept.{keep-after}
use Rattle.ruler.specs.declared.Time.{Time}
use Rattle.ruler.specs.Ruler.{time_at, before, same_time, no_later}
use Rattle.trip.specs.declared.Trip.{Trip}
use Rattle.trip.specs.declared.Window.{Window}
use Rattle.trip.specs.declared.Relationship.{Relationship}
use Rattle.trip.specs.declared.Relationship.TheVariants.{Equals, Starts, StartedBy, Finishes, FinishedBy, Meets, MetBy, Overlaps, OverlappedBy, Contains, ContainedBy, Before, After, GOverlaps}
use Rattle.trip.specs.Relationships.{related}
use Rattle.trip.specs.Trips.{trip_of, window_of}

-- ---- each test of two times by the test "before"

pub no_later_lem : (t u : Time) → no_later t u ≡ not (before u t)
no_later_lem t u =
    agree (no_later t u) (not (before u t)) (λ p. not_T (before u t) (λ q. omega (arith, leb→le, ltb→lt)))
    (λ p. le→leb t.0 u.0 (nltb→le u.0 t.0 p))

same_time_lem : (t u : Time) → same_time t u ≡ (no_later t u && no_later u t)
same_time_lem t u =
    agree (same_time t u) (no_later t u && no_later u t)
    (λ p. let e = eqb→eq t.0 u.0 p in to_and (no_later t u) (no_later u t) (omega (arith, le→leb)) (omega (arith, le→leb)))
    (λ p. let w = of_and (no_later t u) (no_later u t) p in omega (arith, leb→le, eq→eqb))

-- ---- the ranks of some times

abbrev earlier : Time → Time → Bool
earlier t u = before u t

not_itself : (t : Time) → T (not (earlier t t))
not_itself t = not_T (earlier t t) (λ p. omega (arith, ltb→lt))

module _ (l : List Time) where
  abbrev pub rank : Time → ℕ
  rank t = length (keep (earlier t) l)

  -- what is before t is also before a time no earlier than t
  narrower : (t u : Time) → t.0 ≤ u.0 → keep (earlier t) (keep (earlier u) l) ≡ keep (earlier t) l
  narrower t u h = keep-after (earlier t) (earlier u) (λ z e. le-ltb z.0 t.0 (omega (arith, ltb-false z.0 u.0 e))) l

  pub rank_rises : (t u : Time) → t.0 ≤ u.0 → rank t ≤ rank u
  rank_rises t u h = rw (← narrower t u h) (keep-length (earlier t) (keep (earlier u) l))

  -- one of the times counts for a later one, and not for itself
  rank_above : (t u : Time) → Mem t l → t.0 < u.0 → rank t < rank u
  rank_above t u m h =
      rw (← narrower t u (omega arith)) (keep_shorter (earlier t) (keep (earlier u) l) t (to_keep (earlier u) l t m (omega (arith, lt→ltb))) (not_itself t))

  pub rank_below : (t : Time) → Mem t l → rank t < length l
  rank_below t m = keep_shorter (earlier t) l t m (not_itself t)

  abbrev ranked : Time → Time
  ranked t = time_at (rank t)

  pub rank_before : (t u : Time) → Mem t l → before (ranked t) (ranked u) ≡ before t u
  rank_before t u m =
      agree (before (ranked t) (ranked u)) (before t u) (λ p. go (ltb→lt (rank t) (rank u) p) (dec_lt t.0 u.0))
      (λ p. lt→ltb (rank t) (rank u) (rank_above t u m (ltb→lt t.0 u.0 p)))
    where
      go : rank t < rank u → Dec (t.0 < u.0) → T (before t u)
      go h (yes less) = lt→ltb t.0 u.0 less
      go h (no more) = absurd (omega (arith, rank_rises u t (omega arith)))

  pub rank_no_later : (t u : Time) → Mem u l → no_later (ranked t) (ranked u) ≡ no_later t u
  rank_no_later t u k = no_later_lem (ranked t) (ranked u) ∙ ap not (rank_before u t k) ∙ sym (no_later_lem t u)

  pub rank_same : (t u : Time) → Mem t l → Mem u l → same_time (ranked t) (ranked u) ≡ same_time t u
  rank_same t u m k =
      same_time_lem (ranked t) (ranked u) ∙ ap₂ ◌&&◌ (rank_no_later t u k) (rank_no_later u t m) ∙ sym (same_time_lem t u)

ruleset tests-by-rank = (rank_before, rank_no_later, rank_same)

-- ---- a relationship by the ranks of its four times

module _ (q : Window) (s : Trip) where
  abbrev pub four : List Time
  four = q.start ∷ q.end ∷ s.start ∷ s.end ∷ []

  abbrev pub ranked_window : Window
  ranked_window = window_of (rank four q.start) (rank four q.end)

  abbrev pub ranked_trip : Trip
  ranked_trip = trip_of 0 (rank four s.start) (rank four s.end) 0

  pub by_rank : (r : Relationship) → related r ranked_window ranked_trip ≡ related r q s
  unfolding related
  by_rank r = go r (here refl) (there (here refl)) (there (there (here refl))) (there (there (there (here refl))))
    where
      go : (r : Relationship) → Mem q.start four → Mem q.end four → Mem s.start four → Mem s.end four
          → related r ranked_window ranked_trip ≡ related r q s
      go Equals a b c d = simp tests-by-rank
      go Starts a b c d = simp tests-by-rank
      go StartedBy a b c d = simp tests-by-rank
      go Finishes a b c d = simp tests-by-rank
      go FinishedBy a b c d = simp tests-by-rank
      go Meets a b c d = simp tests-by-rank
      go MetBy a b c d = simp tests-by-rank
      go Overlaps a b c d = simp tests-by-rank
      go OverlappedBy a b c d = simp tests-by-rank
      go Contains a b c d = simp tests-by-rank
      go ContainedBy a b c d = simp tests-by-rank
      go Before a b c d = simp tests-by-rank
      go After a b c d = simp tests-by-rank
      go GOverlaps a b c d = simp tests-by-rank
