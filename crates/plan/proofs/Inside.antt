-- The bounds of a relationship hold for a trip exactly where the table of relationships says that the window stands so to it.
use mathlib.Core.Path.{◌≡◌, ap₂, ◌∙◌}
use mathlib.Core.Bool.{Bool, true, false, ◌&&◌, and-true, and_assoc, and_comm}
use Prim.Native.Nat.{◌+◌, ◌<◌}
use native.Mathlib.Numerals.{add-one}
use native.Mathlib.Omega.{arith}
use lib.Dec.{T, leb, ltb, eqb, leb→le, le→leb, ltb→lt, lt→ltb, eqb→eq, eqb_refl, leb-zero, leb-suc-suc}
use borrow.Author.Tests.{lt-ltb}
use Rattle.lists.proofs.Tests.{of_and, to_and, of_three, to_three, agree, eq→eqb}
use Rattle.ruler.specs.declared.Time.{Time}
use Rattle.ruler.specs.Ruler.{before, no_later, same_time}
use Rattle.trip.specs.declared.Trip.{Trip}
use Rattle.trip.specs.declared.Window.{Window}
use Rattle.trip.specs.declared.Relationship.{Relationship}
use Rattle.trip.specs.declared.Relationship.TheVariants.{Equals, Starts, StartedBy, Finishes, FinishedBy, Meets, MetBy, Overlaps, OverlappedBy, Contains, ContainedBy, Before, After, GOverlaps}
use Rattle.trip.specs.Relationships.{related}
use Rattle.plan.specs.Bounds.{has, inside, far, exactly, exactly_if, later, earlier, between, since, until, any, bounds_of}

-- ---- each kind of span, as one test

module _ (q t : Time) where
  in_exactly : has (exactly q) t ≡ same_time q t
  unfolding has
  in_exactly =
      let a = q.0 in
      let b = t.0 in
      agree (leb a b && ltb b (a + 1)) (eqb a b)
      (λ p.
      let w = of_and (leb a b) (ltb b (a + 1)) p in
      let x = leb→le a b w.0 in
      let y = ltb→lt b (a + 1) w.1 in
      let e : a ≡ b = omega arith in
      rw e (eqb_refl b))
      (λ p.
      let e = eqb→eq a b p in
      to_and (leb a b) (ltb b (a + 1)) (le→leb a b (omega arith)) (lt→ltb b (a + 1) (omega arith)))

  in_exactly_if : (test : Bool) → has (exactly_if test q) t ≡ (test && same_time q t)
  unfolding has
  in_exactly_if true = in_exactly
  in_exactly_if false =
      agree (leb q.0 t.0 && ltb t.0 q.0) false
      (λ p. let w = of_and (leb q.0 t.0) (ltb t.0 q.0) p in absurd (omega (arith, leb→le, ltb→lt))) (λ p. absurd p)

  in_earlier : has (earlier q) t ≡ before t q
  unfolding has
  in_earlier = rw (leb-zero t.0)

  in_until : has (until q) t ≡ no_later t q
  unfolding has
  in_until = rw (leb-zero t.0, add-one q.0) (leb-suc-suc t.0 q.0)

  in_later : t.0 < far → has (later q) t ≡ before q t
  unfolding has
  in_later h = rw (lt-ltb t.0 far h, and-true, add-one q.0)

  in_since : t.0 < far → has (since q) t ≡ no_later q t
  unfolding has
  in_since h = rw (lt-ltb t.0 far h, and-true)

in_any : (t : Time) → t.0 < far → has any t ≡ true
unfolding has
in_any t h = rw (leb-zero t.0, lt-ltb t.0 far h)

in_between : (a b t : Time) → has (between a b) t ≡ (before a t && before t b)
unfolding has
in_between a b t = rw (add-one a.0)

-- three tests and another three that pass alike
alike : (a b c d e f : Bool) → (T a × T b × T c → T d × T e × T f) → (T d × T e × T f → T a × T b × T c) → (a && b && c) ≡ (d && e && f)
alike a b c d e f to from =
    agree (a && b && c) (d && e && f) (λ p. to_three d e f (to (of_three a b c p))) (λ p. to_three a b c (from (of_three d e f p)))

-- of a trip that starts where a window ends, or ends where it starts, the other end tells whether it is a point
module _ (q : Window) (t : Trip) where
  abbrev proper : Bool
  proper = before q.start q.end

  meets : (proper && same_time q.end t.start && before q.end t.end) ≡ related Meets q t
  unfolding related
  meets =
      let meet = same_time q.end t.start in
      alike proper meet (before q.end t.end) proper meet (before t.start t.end)
      (λ w. omega (arith, eqb→eq, eq→eqb, ltb→lt, lt→ltb)) (λ w. omega (arith, eqb→eq, eq→eqb, ltb→lt, lt→ltb))

  met_by : (before t.start q.start && (proper && same_time q.start t.end)) ≡ related MetBy q t
  unfolding related
  met_by =
      rw (← and_assoc (before t.start q.start) proper (same_time q.start t.end))
      (alike (before t.start q.start) proper (same_time q.start t.end) (before t.start t.end) (same_time t.end q.start) proper
      (λ w. omega (arith, eqb→eq, eq→eqb, ltb→lt, lt→ltb)) (λ w. omega (arith, eqb→eq, eq→eqb, ltb→lt, lt→ltb)))

-- ---- the law

pub inside-related : (r : Relationship) (q : Window) (t : Trip) → t.start.0 < far → t.end.0 < far → inside (bounds_of r q) t ≡ related r q t
unfolding inside bounds_of related
inside-related Equals q t hs he = ap₂ ◌&&◌ (in_exactly q.start t.start) (in_exactly q.end t.end)
inside-related Starts q t hs he = ap₂ ◌&&◌ (in_exactly q.start t.start) (in_later q.end t.end he)
inside-related StartedBy q t hs he = ap₂ ◌&&◌ (in_exactly q.start t.start) (in_earlier q.end t.end)
inside-related Finishes q t hs he = ap₂ ◌&&◌ (in_earlier q.start t.start) (in_exactly q.end t.end)
inside-related FinishedBy q t hs he = ap₂ ◌&&◌ (in_later q.start t.start hs) (in_exactly q.end t.end)
inside-related Meets q t hs he =
    ap₂ ◌&&◌ (in_exactly_if q.end t.start (before q.start q.end)) (in_later q.end t.end he) ∙ meets q t
inside-related MetBy q t hs he =
    ap₂ ◌&&◌ (in_earlier q.start t.start) (in_exactly_if q.start t.end (before q.start q.end)) ∙ met_by q t
inside-related Overlaps q t hs he = ap₂ ◌&&◌ (in_between q.start q.end t.start) (in_later q.end t.end he)
inside-related OverlappedBy q t hs he =
    let s = before t.start q.start in
    let a = before q.start t.end in
    let b = before t.end q.end in
    let assoc : (s && (a && b)) ≡ (s && a && b) = rw and_assoc in
    ap₂ ◌&&◌ (in_earlier q.start t.start) (in_between q.start q.end t.end) ∙ assoc
inside-related Contains q t hs he = ap₂ ◌&&◌ (in_later q.start t.start hs) (in_earlier q.end t.end)
inside-related ContainedBy q t hs he = ap₂ ◌&&◌ (in_earlier q.start t.start) (in_later q.end t.end he)
inside-related Before q t hs he = ap₂ ◌&&◌ (in_later q.end t.start hs) (in_any t.end he) ∙ and-true _
inside-related After q t hs he = ap₂ ◌&&◌ (in_any t.start hs) (in_earlier q.start t.end)
inside-related GOverlaps q t hs he =
    ap₂ ◌&&◌ (in_until q.end t.start) (in_since q.start t.end he) ∙ and_comm (no_later t.start q.end) (no_later q.start t.end)
