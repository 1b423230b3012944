-- The walk of a plan meets each match once, and nothing else: for any test that the plan suits.
use mathlib.Core.Path.{◌≡◌, refl, sym, ap, ◌∙◌}
use mathlib.Core.Logic.{◌⊎◌, inl, inr}
use mathlib.Core.Bool.{Bool, true, false, not, ◌&&◌, ◌||◌}
use mathlib.Core.List.{List, Memᴰ as Mem}
use mathlib.Core.List.Memᴰ.{append_cases}
use mathlib.Core.List.Memᴰ.{append_left}
use mathlib.Core.List.Memᴰ.{append_right}
use Prim.Native.Nat.{ℕ, ◌+◌, ◌-◌, ◌*◌, ◌/◌, ◌%◌, ◌≤◌, ◌<◌}
use native.Mathlib.Omega.{arith}
use lib.Dec.{T, leb, eqb, le→leb, eqb_refl}
use borrow.Author.Tests.{eqb-true, eqb-false}
use Rattle.lists.specs.Lists.{keep, joined}
use Rattle.lists.proofs.Tests.{of_and, to_and, or_left, or_right}
use Rattle.lists.proofs.Members.{In, of_keep, to_keep, of_sort, to_sort, of_joined, to_joined, pairs_keep, pairs_sort}
use Rattle.lists.proofs.Kept.{keep-joined}
use Rattle.ruler.specs.Ruler.{Scale, cell_up}
use Rattle.ruler.proofs.CellLevels.{up_mono, up_from}
use Rattle.ruler.proofs.Fair.{Fair}
use Rattle.trip.specs.declared.Trip.{Trip}
use Rattle.layout.specs.declared.Half.{Half}
use Rattle.layout.specs.declared.Half.TheVariants.{Originals, Replicas}
use Rattle.layout.specs.Stored.{holds, holds_trip, is_original, is_in, subdivision_of, is_of, belongs}
use Rattle.layout.specs.Words.{order, slot_trips}
use Rattle.layout.proofs.Partitions.{Once, holds-within, of_within}
use Rattle.layout.proofs.Reported.{reported, Reported, of_reported, shared_once}
use Rattle.layout.proofs.RowOrder.{Distinct}
use Rattle.layout.proofs.Sides.{of_originals, of_is_of, to_is_of, side, side_lt, side_slot, same-slot}
use Rattle.layout.proofs.Apart.{apart-append, apart-joined}
use Rattle.layout.specs.Refusals.{Fits}
use Rattle.plan.specs.declared.range.Kind.{Kind}
use Rattle.plan.specs.declared.range.Kind.TheVariants.{Starting, Ending, Crossing}
use Rattle.plan.specs.declared.range.Plan.{Plan}
use Rattle.plan.specs.Plan.{original_slots, replica_slots}
use Rattle.plan.proofs.Looked.{slot_from, slots_from, width, looked_at, level_walk, walk}
use Rattle.plan.proofs.Ranges.{few_slots}

-- ---- what a plan asks of a trip with the cells a .. b: it shares a cell with low .. high, and is among the entries looked at

abbrev pub Suits : Kind → (low high a b : ℕ) → Type 0
Suits Starting low high a b = (low ≤ a) × (a ≤ high)
Suits Ending low high a b = (low ≡ b) × (high ≡ b)
Suits Crossing low high a b = (a ≤ high) × (low ≤ b)

shares : (k : Kind) (low high a b : ℕ) → a ≤ b → Suits k low high a b → (a ≤ high) × (low ≤ b)
shares Starting low high a b h s = (s.1, omega arith)
shares Ending low high a b h s = (omega arith, omega arith)
shares Crossing low high a b h s = s

module _ (m a b low high : ℕ) where
  to_reported : (L i : ℕ) → T (holds m L i a b) → cell_up m L low ≤ i → i ≤ cell_up m L high → (cell_up m L a ≡ i) ⊎ (cell_up m L low ≡ i)
      → T (reported m a b low high L i)
  unfolding reported
  to_reported L i h f t k =
      to_and (holds m L i a b) _ h
      (to_and (leb (cell_up m L low) i && leb i (cell_up m L high)) _
      (to_and (leb (cell_up m L low) i) _ (le→leb (cell_up m L low) i f) (le→leb i (cell_up m L high) t)) (kind k))
    where
      kind : (cell_up m L a ≡ i) ⊎ (cell_up m L low ≡ i) → T (eqb (cell_up m L a) i || eqb (cell_up m L low) i)
      kind (inl e) = or_left (eqb (cell_up m L a) i) (eqb (cell_up m L low) i) (rw e (eqb_refl i))
      kind (inr e) = or_right (eqb (cell_up m L a) i) (eqb (cell_up m L low) i) (rw e (eqb_refl i))

  -- an original that is met stands in one of the last partition's slots that are looked at
  original_side : (k : Kind) (L i : ℕ) (e : Bool) → Suits k low high a b → Reported m a b low high L i → e ≡ eqb (cell_up m L b) i
      → side e < original_slots k
  unfolding side
  original_side Starting L i e s w q = side_lt e
  original_side Crossing L i e s w q = side_lt e
  original_side Ending L i true s w q = omega arith
  original_side Ending L i false s w q =
      let x : cell_up m L b ≡ i → ⊥ = eqb-false (cell_up m L b) i (sym q) in
      absurd (x (omega (arith, w.from, w.to, ap (cell_up m L) s.0, ap (cell_up m L) s.1)))

  -- and a replica in one of the first partition's
  replica_side : (k : Kind) (L i : ℕ) (e : Bool) → Suits k low high a b → Reported m a b low high L i → e ≡ eqb (cell_up m L b) i
      → (cell_up m L a ≡ i → ⊥) → side e < replica_slots k
  replica_side Starting L i e s w q n = absurd (go w.kind)
    where
      go : (cell_up m L a ≡ i) ⊎ (cell_up m L low ≡ i) → ⊥
      go (inl x) = n x
      go (inr x) =
          let p = of_within m L i a b (holds-within m L i a b w.is_held) in
          let l = up_from m L low i (omega arith) in
          let c : low ≡ a = omega arith in
          n (ap (cell_up m L) (sym c) ∙ x)
  replica_side Crossing L i e s w q n = side_lt e
  replica_side Ending L i e s w q n = original_side Ending L i e s w q

-- ---- the law

module _
    (s : Scale) (fair : Fair s) (ts : List Trip) (fits : (t : Trip) → Mem t ts → Fits s t) (d : Distinct ts)
    (test : Trip → Bool) (p : Plan) (ordered : p.low.1 ≤ p.high.1)
    (suits : (t : Trip) → Mem t ts → T (test t) → Suits p.kind p.low.1 p.high.1 (s.cell t.start) (s.cell t.end)) where
  abbrev A : Trip → ℕ
  A t = s.cell t.start

  abbrev B : Trip → ℕ
  B t = s.cell t.end

  -- the partition of level L in which the low cell lies
  abbrev first : ℕ → ℕ
  first L = cell_up s.m L p.low.1

  -- a match: a trip of the table that passes the test
  record Match (t : Trip) : Type 0 where
    row : Mem t ts
    passes : T (test t)

  reported_of : Trip → ℕ → ℕ → Bool
  reported_of t = reported s.m (A t) (B t) p.low.1 p.high.1

  met_once : (t : Trip) → Match t → Once s.m (reported_of t)
  unfolding reported_of
  met_once t w =
      let f = fits t w.row in
      let ab = fair.never_falls t.start t.end f.times.ordered in
      let c = shares p.kind p.low.1 p.high.1 (A t) (B t) ab (suits t w.row w.passes) in
      shared_once s.m (A t) (B t) p.low.1 p.high.1 ab ordered c.0 c.1 (fair.one_of t.end f.times.ends)

  -- the entries of a slot looked at that pass the test
  found : Half → (L q : ℕ) → List Trip
  found h L q = keep test (slot_from s h ts L (first L) q)

  record Seen (h : Half) (L q : ℕ) (t : Trip) : Type 0 where
    match : Match t
    is_held : T (holds_trip s L (first L + q / 2) t)
    which : is_original s L (first L + q / 2) t ≡ of_originals h
    ends_in : is_in s L (first L + q / 2) t ≡ not (eqb (q % 2) 1)

  of_found : (h : Half) (L q : ℕ) (t : Trip) → Mem t (found h L q) → Seen h L q t
  unfolding found slot_from slot_trips belongs
  of_found h L q t m =
      let i = first L + q / 2 in
      let aft = eqb (q % 2) 1 in
      let u = of_keep test _ t m in
      let v = of_keep _ ts t (of_sort _ _ t u.0) in
      let w = of_and (holds_trip s L i t) (is_of (subdivision_of h aft) (is_original s L i t) (is_in s L i t)) v.1 in
      let z = of_is_of h aft (is_original s L i t) (is_in s L i t) w.1 in
      record { match = record { row = v.0; passes = u.1 }; is_held = w.0; which = z.0; ends_in = z.1 }

  to_found : (h : Half) (L q : ℕ) (t : Trip) → Seen h L q t → Mem t (found h L q)
  unfolding found slot_from slot_trips belongs
  to_found h L q t w =
      let i = first L + q / 2 in
      let of = to_is_of h (eqb (q % 2) 1) (is_original s L i t) (is_in s L i t) w.which w.ends_in in
      to_keep test _ t (to_sort _ _ t (to_keep _ ts t w.match.row (to_and (holds_trip s L i t) _ w.is_held of))) w.match.passes

  size : Half → ℕ → ℕ
  size h L = width s.m p h L

  -- what is seen is what the law of the shared cells speaks of
  seen_reported : (h : Half) (L q : ℕ) (t : Trip) → q < size h L → Seen h L q t → T (reported_of t L (first L + q / 2))
  unfolding reported_of size width holds_trip is_original of_originals
  seen_reported Originals L q t l w =
      let up = up_mono s.m L p.low.1 p.high.1 ordered in
      let k = few_slots p.kind in
      to_reported s.m (A t) (B t) p.low.1 p.high.1 L (first L + q / 2) w.is_held (omega arith) (omega arith)
      (inl (eqb-true _ _ w.which))
  seen_reported Replicas L q t l w =
      let up = up_mono s.m L p.low.1 p.high.1 ordered in
      let k = few_slots p.kind in
      let e : q / 2 ≡ 0 = omega arith in
      to_reported s.m (A t) (B t) p.low.1 p.high.1 L (first L + q / 2) w.is_held (omega arith) (omega arith) (inr (omega arith))

  -- a match is seen in one slot of one level
  record Same (h h' : Half) (L L' q q' : ℕ) : Type 0 where
    levels : L ≡ L'
    halves : of_originals h ≡ of_originals h'
    slots : q ≡ q'

  seen_once : (h h' : Half) (L L' q q' : ℕ) (t : Trip) → L ≤ s.m → L' ≤ s.m → q < size h L → q' < size h' L' → Seen h L q t → Seen h' L' q' t
      → Same h h' L L' q q'
  seen_once h h' L L' q q' t hl hl' hq hq' w w' =
      let o = met_once t w.match in
      let x = o.only L _ hl (seen_reported h L q t hq w) in
      let y = o.only L' _ hl' (seen_reported h' L' q' t hq' w') in
      let el : L ≡ L' = x.0 ∙ sym y.0 in
      let ei : first L + q / 2 ≡ first L' + q' / 2 = x.1 ∙ sym y.1 in
      let eq : q / 2 ≡ q' / 2 = omega (arith, ap first el) in
      let o' : is_original s L (first L + q / 2) t ≡ of_originals h' = rw (el, eq) w'.which in
      let i' : is_in s L (first L + q / 2) t ≡ not (eqb (q' % 2) 1) = rw (el, eq) w'.ends_in in
      record { levels = el; halves = sym w.which ∙ o'; slots = same-slot q q' (sym w.ends_in ∙ i') eq }

  -- a match is seen in some slot
  record Somewhere (t : Trip) : Type 0 where
    h : Half
    L : ℕ
    q : ℕ
    deep : L ≤ s.m
    below : q < size h L
    seen : Seen h L q t

  seen_some : (t : Trip) → Match t → Somewhere t
  unfolding reported_of size width holds_trip is_in is_original of_originals
  seen_some t w =
      let o = met_once t w in
      let u = of_reported s.m (A t) (B t) p.low.1 p.high.1 o.level o.place o.has in
      go o.level o.place o.deep u (is_original s o.level o.place t) refl
    where
      go : (L i : ℕ) → L ≤ s.m → Reported s.m (A t) (B t) p.low.1 p.high.1 L i → (o : Bool) → is_original s L i t ≡ o → Somewhere t
      go L i deep u true e =
          let g = is_in s L i t in
          let a = side_slot g (i - first L) in
          let f = u.from in
          let z = u.to in
          let l = original_side s.m (A t) (B t) p.low.1 p.high.1 p.kind L i g (suits t w.row w.passes) u refl in
          let q = 2 * (i - first L) + side g in
          let at_i : first L + q / 2 ≡ i = omega (arith, a.1) in
          record {
            h = Originals;
            L = L;
            q = q;
            deep = deep;
            below = omega arith;
            seen = record { match = w; is_held = rw at_i u.is_held; which = rw at_i e; ends_in = rw at_i a.0 };
          }
      go L i deep u false e =
          let g = is_in s L i t in
          let a = side_slot g 0 in
          let x : cell_up s.m L (A t) ≡ i → ⊥ = eqb-false _ i e in
          let y : first L ≡ i = elim u.kind [ inl z ↦ absurd (x z) | inr z ↦ z ] in
          let l = replica_side s.m (A t) (B t) p.low.1 p.high.1 p.kind L i g (suits t w.row w.passes) u refl x in
          let q = 2 * 0 + side g in
          let at_i : first L + q / 2 ≡ i = omega (arith, a.1) in
          record {
            h = Replicas;
            L = L;
            q = q;
            deep = deep;
            below = omega arith;
            seen = record { match = w; is_held = rw at_i u.is_held; which = rw at_i e; ends_in = rw at_i a.0 };
          }

  -- ---- the lists: of a half of a level, of a level, of all levels

  half : Half → ℕ → List Trip
  half h L = keep test (looked_at s p ts h L)

  half_joined : (h : Half) (L : ℕ) → half h L ≡ joined (found h L) (size h L)
  unfolding half looked_at slots_from found size
  half_joined h L = keep-joined test (slot_from s h ts L (first L)) (width s.m p h L)

  of_half : (h : Half) (L : ℕ) (t : Trip) → Mem t (half h L) → (q : ℕ) × (q < size h L) × Seen h L q t
  of_half h L t m = let w = of_joined (found h L) (size h L) t (rw (half_joined h L) at m) in (w.0, w.1, of_found h L w.0 t w.2)

  half_in : (h : Half) (L : ℕ) → In (half h L) ts
  half_in h L t m = (of_half h L t m).2.match.row

  found_distinct : (h : Half) (L q : ℕ) → Distinct (found h L q)
  unfolding found slot_from slot_trips
  found_distinct h L q = pairs_keep test (pairs_sort (λ x y n e. n (sym e)) (order (subdivision_of h (eqb (q % 2) 1))) (pairs_keep _ d))

  half_distinct : (h : Half) (L : ℕ) → L ≤ s.m → Distinct (half h L)
  half_distinct h L deep =
      rw (half_joined h L)
      (apart-joined d (found h L) (size h L) (λ q l t m. (of_found h L q t m).match.row) (λ q l. found_distinct h L q)
      (λ i j ij jn t x y.
      let e = (seen_once h h L L i j t deep deep (omega arith) jn (of_found h L i t x) (of_found h L j t y)).slots in
      omega arith))

  level : ℕ → List Trip
  level L = level_walk s test p ts L

  of_level : (L : ℕ) (t : Trip) → Mem t (level L) → (h : Half) × (q : ℕ) × (q < size h L) × Seen h L q t
  unfolding level level_walk half
  of_level L t m = elim (append_cases (half Originals L) m) [
    | inl x ↦ let w = of_half Originals L t x in (Originals, w.0, w.1, w.2)
    | inr x ↦ let w = of_half Replicas L t x in (Replicas, w.0, w.1, w.2)
  ]

  in_level : (h : Half) (L : ℕ) (t : Trip) → Mem t (half h L) → Mem t (level L)
  unfolding level level_walk half
  in_level Originals L t n = append_left (half Replicas L) n
  in_level Replicas L t n = append_right (half Originals L) n

  level_distinct : (L : ℕ) → L ≤ s.m → Distinct (level L)
  unfolding level level_walk half of_originals
  level_distinct L deep =
      apart-append d (half_in Originals L) (half_in Replicas L) (half_distinct Originals L deep) (half_distinct Replicas L deep)
      (λ t x y.
      let u = of_half Originals L t x in
      let v = of_half Replicas L t y in
      let e : true ≡ false = (seen_once Originals Replicas L L u.0 v.0 t deep deep u.1 v.1 u.2 v.2).halves in
      let z : ◌≡◌ {A = ℕ} 0 1 = cc in
      omega arith)

  -- all that the walk lists are matches
  pub walk_in : In (walk s test p ts (s.m + 1)) (keep test ts)
  unfolding walk level
  walk_in t m =
      let w = of_joined (λ up. level_walk s test p ts (s.m - up)) (s.m + 1) t m in
      let u = (of_level (s.m - w.0) t w.2).3.match in
      to_keep test ts t u.row u.passes

  -- all matches are listed
  pub in_walk : In (keep test ts) (walk s test p ts (s.m + 1))
  unfolding walk level
  in_walk t m =
      let w = of_keep test ts t m in
      let v = seen_some t (record { row = w.0; passes = w.1 }) in
      let up = s.m - v.L in
      let deep = v.deep in
      let e : s.m - up ≡ v.L = omega arith in
      let n = to_joined (found v.h v.L) (size v.h v.L) v.q t v.below (to_found v.h v.L v.q t v.seen) in
      to_joined (λ up. level_walk s test p ts (s.m - up)) (s.m + 1) up t (omega arith)
      (rw e (in_level v.h v.L t (rw (← half_joined v.h v.L) at n)))

  -- and none twice
  pub walk_distinct : Distinct (walk s test p ts (s.m + 1))
  unfolding walk level
  walk_distinct =
      apart-joined d (λ up. level (s.m - up)) (s.m + 1) (λ j l t m. (of_level (s.m - j) t m).3.match.row)
      (λ j l. level_distinct (s.m - j) (omega arith))
      (λ i j ij jn t x y.
      let u = of_level (s.m - i) t x in
      let v = of_level (s.m - j) t y in
      let e = (seen_once u.0 v.0 (s.m - i) (s.m - j) u.1 v.1 t (omega arith) (omega arith) u.2 v.2 u.3 v.3).levels in
      omega arith)
