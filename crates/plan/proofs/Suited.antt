-- The plan of each relationship lies on the ruler, suits its matches, and is quick only where that is right.
use mathlib.Core.Path.{◌≡◌, refl, sym}
use mathlib.Core.Bool.{Bool, true, false, ◌&&◌}
use Prim.Native.Nat.{ℕ, ◌-◌, ◌^◌, ◌≤◌, ◌<◌}
use native.Mathlib.Nat.{le_antisymm, le_trans}
use native.Mathlib.Decide.{dec_lt}
use native.Mathlib.Omega.{arith}
use lib.Dec.{T, leb→le, le→leb, ltb→lt, eqb→eq}
use Rattle.lists.proofs.Tests.{of_and, to_and, of_three}
use Rattle.ruler.specs.declared.Time.{Time}
use Rattle.ruler.specs.Ruler.{Scale, deepest, before, same_time, no_later, cell_of}
use Rattle.ruler.proofs.Fair.{Fair}
use Rattle.trip.specs.declared.Trip.{Trip}
use Rattle.trip.specs.declared.Window.{Window}
use Rattle.trip.specs.declared.Relationship.{Relationship}
use Rattle.trip.specs.declared.Relationship.TheVariants.{Equals, Starts, StartedBy, Finishes, FinishedBy, Meets, MetBy, Overlaps, OverlappedBy, Contains, ContainedBy, Before, After, GOverlaps}
use Rattle.trip.specs.Relationships.{related}
use Rattle.plan.specs.declared.range.Kind.{Kind}
use Rattle.plan.specs.declared.range.Kind.TheVariants.{Starting, Ending, Crossing}
use Rattle.plan.specs.declared.range.Plan.{Plan}
use Rattle.plan.specs.Plan.{plan_of, plan_for, Ranged}
use Rattle.plan.proofs.Walked.{Suits}

-- the plan of a relationship, for a window whose level-m cells are f and l
abbrev pub plan_at : (m : ℕ) → Relationship → (f l : ℕ) → Plan
plan_at m r f l = plan_of r (cell_of m f) (cell_of m l) (cell_of m 0) (cell_of m (2 ^ m - 1))

pub plan_for_lem : (s : Scale) (r : Relationship) (q : Window) → plan_for s r q ≡ plan_at s.m r (s.cell q.start) (s.cell q.end)
unfolding plan_for
plan_for_lem s r q = refl

-- ---- the range

module _ (s : Scale) (deep : s.m ≤ deepest) where
  -- a plan of level-m cells that lie in order on the ruler
  ranges : (k : Kind) (quick : Bool) (a b : ℕ) → a ≤ b → b < 2 ^ s.m
      → Ranged s.m (record { kind = k; low = cell_of s.m a; high = cell_of s.m b; quick = quick })
  ranges k quick a b h l = record { deep = deep; low_level = refl; high_level = refl; ordered = h; bounded = l }

  pub in_range : (r : Relationship) (f l : ℕ) → f ≤ l → l < 2 ^ s.m
      → Ranged s.m (plan_at s.m r f l)
  in_range Equals f l h b = ranges Starting false f f (omega arith) (omega arith)
  in_range Starts f l h b = ranges Starting false f f (omega arith) (omega arith)
  in_range StartedBy f l h b = ranges Starting false f f (omega arith) (omega arith)
  in_range Finishes f l h b = ranges Ending false l l (omega arith) b
  in_range FinishedBy f l h b = ranges Ending false l l (omega arith) b
  in_range Meets f l h b = ranges Starting false l l (omega arith) b
  in_range MetBy f l h b = ranges Ending false f f (omega arith) (omega arith)
  in_range Overlaps f l h b = ranges Crossing false l l (omega arith) b
  in_range OverlappedBy f l h b = ranges Crossing false f f (omega arith) (omega arith)
  in_range Contains f l h b = ranges Starting false f l h b
  in_range ContainedBy f l h b = ranges Crossing false f f (omega arith) (omega arith)
  in_range Before f l h b = ranges Starting false l (2 ^ s.m - 1) (omega arith) (omega arith)
  in_range After f l h b = ranges Starting false 0 f (omega arith) (omega arith)
  in_range GOverlaps f l h b = ranges Crossing true f l h b

-- ---- a match suits its plan

-- from two tests joined, and what each says
both : (a b : Bool) {C : Type 0} → (T a → T b → C) → T (a && b) → C
both a b f t = let w = of_and a b t in f w.0 w.1

module _ (s : Scale) (fair : Fair s) where
  abbrev c : Time → ℕ
  c t = s.cell t

  same : (t u : Time) → T (same_time t u) → c t ≡ c u
  same t u e = let x = eqb→eq t.0 u.0 e in le_antisymm (fair.never_falls t u (omega arith)) (fair.never_falls u t (omega arith))

  less : (t u : Time) → T (before t u) → c t ≤ c u
  less t u h = let x = ltb→lt t.0 u.0 h in fair.never_falls t u (omega arith)

  at_most : (t u : Time) → T (no_later t u) → c t ≤ c u
  at_most t u h = fair.never_falls t u (leb→le t.0 u.0 h)

  within : {x y : ℕ} → x ≡ y → (x ≤ y) × (y ≤ x)
  within e = (omega arith, omega arith)

  -- for a window and a trip, each of whose cells are in order, the trip's first one of the ruler's
  module _ (q : Window) (t : Trip) (bounded : c t.start < 2 ^ s.m) (along : c t.start ≤ c t.end) (order : c q.start ≤ c q.end) where
    abbrev qs : Time
    qs = q.start

    abbrev qe : Time
    qe = q.end

    abbrev ss : Time
    ss = t.start

    abbrev se : Time
    se = t.end

    abbrev P : Relationship → Plan
    P r = plan_at s.m r (c qs) (c qe)

    pub suits_plan : (r : Relationship) → T (related r q t) → Suits (P r).kind (P r).low.1 (P r).high.1 (c ss) (c se)
    unfolding related
    suits_plan Equals = both (same_time qs ss) (same_time qe se) (λ x y. within (same qs ss x))
    suits_plan Starts = both (same_time qs ss) (before qe se) (λ x y. within (same qs ss x))
    suits_plan StartedBy = both (same_time qs ss) (before se qe) (λ x y. within (same qs ss x))
    suits_plan Finishes = both (before ss qs) (same_time qe se) (λ x y. (same qe se y, same qe se y))
    suits_plan FinishedBy = both (before qs ss) (same_time qe se) (λ x y. (same qe se y, same qe se y))
    suits_plan Meets = λ x. within (same qe ss (of_three (before qs qe) (same_time qe ss) (before ss se) x).1)
    suits_plan MetBy = λ x. let y = same se qs (of_three (before ss se) (same_time se qs) (before qs qe) x).1 in (sym y, sym y)
    suits_plan Overlaps = both (before qs ss && before ss qe) (before qe se)
        (λ x y. (less ss qe (of_and (before qs ss) (before ss qe) x).1, less qe se y))
    suits_plan OverlappedBy = both (before ss qs && before qs se) (before se qe)
        (λ x y. both (before ss qs) (before qs se) (λ u v. (less ss qs u, less qs se v)) x)
    suits_plan Contains = both (before qs ss) (before se qe) (λ x y. (less qs ss x, le_trans along (less se qe y)))
    suits_plan ContainedBy = both (before ss qs) (before qe se) (λ x y. (less ss qs x, le_trans order (less qe se y)))
    suits_plan Before = λ x. (less qe ss x, omega arith)
    suits_plan After = λ x. (omega arith, le_trans along (less se qs x))
    suits_plan GOverlaps = both (no_later qs se) (no_later ss qe) (λ x y. (at_most ss qe y, at_most qs se x))

  -- ---- a quick plan is right to be so

  earlier : (t u : Time) → c t < c u → T (no_later t u)
  earlier t u h = go (dec_lt u.0 t.0)
    where
      go : Dec (u.0 < t.0) → T (no_later t u)
      go (yes l) = let m = fair.never_falls u t (omega arith) in absurd (omega arith)
      go (no l) = le→leb t.0 u.0 (omega arith)

  never : {A : Type 0} → false ≡ true → A
  never e = let z : ◌≡◌ {A = ℕ} 0 1 = cc in absurd (omega arith)

  pub quick_right : (r : Relationship) (q : Window) → (plan_at s.m r (c q.start) (c q.end)).quick ≡ true
      → (t : Trip) → (plan_at s.m r (c q.start) (c q.end)).low.1 < c t.end
      → c t.start < (plan_at s.m r (c q.start) (c q.end)).high.1
      → T (related r q t)
  unfolding related
  quick_right Equals q e = never e
  quick_right Starts q e = never e
  quick_right StartedBy q e = never e
  quick_right Finishes q e = never e
  quick_right FinishedBy q e = never e
  quick_right Meets q e = never e
  quick_right MetBy q e = never e
  quick_right Overlaps q e = never e
  quick_right OverlappedBy q e = never e
  quick_right Contains q e = never e
  quick_right ContainedBy q e = never e
  quick_right Before q e = never e
  quick_right After q e = never e
  quick_right GOverlaps q e = λ t low high.
      to_and (no_later q.start t.end) (no_later t.start q.end) (earlier q.start t.end low) (earlier t.start q.end high)
