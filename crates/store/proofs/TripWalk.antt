-- The walk visits exactly the slots in which a trip belongs, each once: for any scale and any m.
use mathlib.Core.Path.{◌≡◌, refl, sym, ap, ap₂, subst, ◌∙◌}
use mathlib.Core.Logic.{inl, inr}
use mathlib.Core.Bool.{Bool, true, false, cond, not, ◌&&◌, ◌||◌}
use mathlib.Core.List.{List, [], ◌∷◌, ◌++◌}
use Prim.Native.Nat.{ℕ, zero, suc, ◌+◌, ◌-◌, ◌*◌, ◌/◌, ◌%◌, ◌^◌, ◌≤◌, ◌<◌}
use native.Mathlib.Nat.{mul-le-mul_right, two-pow-succ, sub_self}
use native.Mathlib.Numerals.{add-one}
use native.Mathlib.Decide.{dec_lt, ℕ_discrete}
use native.Mathlib.Omega.{arith}
use lib.Dec.{T, ltb, eqb, not_T, ltb→lt, eqb→eq}
use lib.ListN.{length, get_or, length-append}
use lib.Pow.{pow_pos, pow_mono}
use borrow.Author.Tests.{eqb-true, eqb-false, eq-eqb, ne_eqb, lt-ltb, le-ltb}
use Rattle.lists.specs.Lists.{cons_if, keep}
use Rattle.lists.proofs.Tests.{of_and, to_and, of_or, or_left, or_right}
use Rattle.ruler.specs.Ruler.{Scale, cell_up}
use Rattle.ruler.proofs.CellLevels.{up_half, up_bottom}
use Rattle.trip.specs.declared.Trip.{Trip}
use Rattle.layout.specs.declared.Half.{Half}
use Rattle.layout.specs.declared.Half.TheVariants.{Originals, Replicas}
use Rattle.layout.specs.Stored.{within, holds, holds_trip, is_original, is_in, is_of, subdivision_of, belongs}
use Rattle.layout.specs.Words.{partitions, partition_number, level_of, place_of, slot_number}
use Rattle.store.specs.TripWalk.{in_half, visit, walk, slots_of, slots_of_trip, Below, none, also}
use Rattle.layout.proofs.Partitions.{width_step, of_within, to_within, holds-within, holds_parent}
use Rattle.layout.proofs.Numbers.{numbered, place_lt, number_place}
use Rattle.layout.proofs.SlotMembers.{in_slot}

-- ---- which partitions of a level lie in a..b: lo .. hi - 1
pub record Covered (m L a b lo hi : ℕ) : Type 0 where
  pub into : (i : ℕ) → T (within m L i a b) → (lo ≤ i) × (i < hi)
  pub back : (i : ℕ) → lo ≤ i → i < hi → T (within m L i a b)

pub bottom : (m a b : ℕ) → Covered m m a b a (b + 1)
bottom m a b = record {
  into = λ i t. let w = rw sub_self at (of_within m m i a b t) in (omega arith, omega arith);
  back = λ i p q. to_within m m i a b (rw sub_self (omega arith)) (rw sub_self (omega arith));
}

-- two products by one factor, the other way round
less : (d x y : ℕ) → 0 < d → x * d < y * d + d → x ≤ y
less d x y p h = go (dec_lt y x)
  where
    go : Dec (y < x) → x ≤ y
    go (yes q) = let z : y + 1 ≤ x = omega arith in absurd (omega (arith, mul-le-mul_right d z))
    go (no q) = omega arith

-- a partition lies in a..b exactly if its two children do
children : (m L i a b : ℕ) → suc L ≤ m → T (within m L i a b) → T (within m (suc L) (i * 2) a b) × T (within m (suc L) (i * 2 + 1) a b)
children m L i a b h t =
    let p = rw (width_step m L h) at (of_within m L i a b t) in
    let d = 2 ^ (m - suc L) in
    (to_within m (suc L) (i * 2) a b (omega arith) (omega arith), to_within m (suc L) (i * 2 + 1) a b (omega arith) (omega arith))

parent : (m L i a b : ℕ) → suc L ≤ m → T (within m (suc L) (i * 2) a b) → T (within m (suc L) (i * 2 + 1) a b) → T (within m L i a b)
parent m L i a b h s t =
    let p = of_within m (suc L) (i * 2) a b s in
    let q = of_within m (suc L) (i * 2 + 1) a b t in
    to_within m L i a b (rw (width_step m L h) (omega arith)) (rw (width_step m L h) (omega arith))

pub higher : (m L a b lo hi : ℕ) → suc L ≤ m → Covered m (suc L) a b lo hi → Covered m L a b ((lo + 1) / 2) (hi / 2)
higher m L a b lo hi h w = record {
  into = λ i t.
      let c = children m L i a b h t in
      let p = w.into (i * 2) c.0 in
      let q = w.into (i * 2 + 1) c.1 in
      (omega arith, omega arith);
  back = λ i p q. parent m L i a b h (w.back (i * 2) (omega arith) (omega arith)) (w.back (i * 2 + 1) (omega arith) (omega arith));
}

-- ---- the partitions of a level that hold the trip: lo if it is odd, and hi - 1 if hi is odd

same_bool : (a b : Bool) → (T a → T b) → (T b → T a) → a ≡ b
same_bool true true f g = refl
same_bool true false f g = absurd (f tt)
same_bool false true f g = absurd (g tt)
same_bool false false f g = refl

-- partition i is the first, or the last, and sticks out of its parent
data Ends (lo hi i : ℕ) : Type 0 where
  first : lo < hi → lo % 2 ≡ 1 → lo ≡ i → Ends lo hi i
  last : lo < hi → hi % 2 ≡ 1 → hi / 2 * 2 ≡ i → Ends lo hi i

ends : (m L a b lo hi i : ℕ) → L ≤ m → hi * 2 ≤ 2 ^ suc L → Covered m L a b lo hi → T (holds m L i a b) → Ends lo hi i
unfolding holds
ends m zero a b lo hi i h f w t = let p = w.into i t in last (omega arith) (omega arith) (omega arith)
ends m (suc L) a b lo hi i h f w t =
    let p = w.into i (holds-within m (suc L) i a b t) in
    go p.0 p.1 (dec_lt lo i) (dec_lt (i + 1) hi) (ℕ_discrete (i % 2) 1)
    (λ q s. holds_parent m L i a b t (parent m L (i / 2) a b h (w.back (i / 2 * 2) (omega arith) (omega arith))
    (w.back (i / 2 * 2 + 1) (omega arith) (omega arith))))
  where
    go : lo ≤ i → i < hi → Dec (lo < i) → Dec (i + 1 < hi) → Dec (i % 2 ≡ 1) → (lo ≤ i / 2 * 2 → i / 2 * 2 + 1 < hi → ⊥) → Ends lo hi i
    go x y (yes p) d (yes o) f = absurd (f (omega arith) (omega arith))
    go x y (no p) d (yes o) f = first (omega arith) (omega arith) (omega arith)
    go x y d (yes q) (no o) f = absurd (f (omega arith) (omega arith))
    go x y d (no q) (no o) f = last (omega arith) (omega arith) (omega arith)

of_ends : (m L a b lo hi i : ℕ) → L ≤ m → hi * 2 ≤ 2 ^ suc L → Covered m L a b lo hi → Ends lo hi i → T (holds m L i a b)
unfolding holds
of_ends m zero a b lo hi i h f w (first l o e) = w.back i (omega arith) (omega arith)
of_ends m zero a b lo hi i h f w (last l o e) = w.back i (omega arith) (omega arith)
of_ends m (suc L) a b lo hi i h f w (first l o e) =
    to_and (within m (suc L) i a b) (not (within m L (i / 2) a b)) (w.back i (omega arith) (omega arith))
    (not_T (within m L (i / 2) a b) (λ t. let p = w.into (i / 2 * 2) (children m L (i / 2) a b h t).0 in omega arith))
of_ends m (suc L) a b lo hi i h f w (last l o e) =
    to_and (within m (suc L) i a b) (not (within m L (i / 2) a b)) (w.back i (omega arith) (omega arith))
    (not_T (within m L (i / 2) a b) (λ t. let p = w.into (i / 2 * 2 + 1) (children m L (i / 2) a b h t).1 in omega arith))

-- the two tests of the walk at a level, for partition i
abbrev pub low : ℕ → ℕ → ℕ → Bool
low lo hi i = (ltb lo hi && eqb (lo % 2) 1) && eqb lo i

abbrev pub high : ℕ → ℕ → ℕ → Bool
high lo hi i = (ltb lo hi && eqb (hi % 2) 1) && eqb (hi / 2 * 2) i

of_three : (x y o i j : ℕ) → T ((ltb x y && eqb o 1) && eqb i j) → (x < y) × (o ≡ 1) × (i ≡ j)
of_three x y o i j t =
    let p = of_and (ltb x y && eqb o 1) (eqb i j) t in
    let q = of_and (ltb x y) (eqb o 1) p.0 in
    (ltb→lt x y q.0, eqb→eq o 1 q.1, eqb→eq i j p.1)

to_three : (x y o i j : ℕ) → x < y → o ≡ 1 → i ≡ j → T ((ltb x y && eqb o 1) && eqb i j)
to_three x y o i j p q r = rw (lt-ltb x y p, eq-eqb o 1 q, eq-eqb i j r) tt

pub low_or_high : (m L a b lo hi i : ℕ) → L ≤ m → hi * 2 ≤ 2 ^ suc L → Covered m L a b lo hi → holds m L i a b ≡ low lo hi i || high lo hi i
low_or_high m L a b lo hi i h f w = same_bool (holds m L i a b) (low lo hi i || high lo hi i)
    (λ t. elim (ends m L a b lo hi i h f w t) [
      | first l o e ↦ or_left (low lo hi i) (high lo hi i) (to_three lo hi (lo % 2) lo i l o e)
      | last l o e ↦ or_right (low lo hi i) (high lo hi i) (to_three lo hi (hi % 2) (hi / 2 * 2) i l o e)
    ])
    (λ t. of_ends m L a b lo hi i h f w (elim (of_or (low lo hi i) (high lo hi i) t) [
      | inl p ↦ let q = of_three lo hi (lo % 2) lo i p in first q.0 q.1 q.2
      | inr p ↦ let q = of_three lo hi (hi % 2) (hi / 2 * 2) i p in last q.0 q.1 q.2
    ]))

pub not_both : (lo hi i : ℕ) → T (low lo hi i) → T (high lo hi i) → ⊥
not_both lo hi i s t =
    let p = of_three lo hi (lo % 2) lo i s in
    let q = of_three lo hi (hi % 2) (hi / 2 * 2) i t in
    omega arith

-- ---- one slot of what is visited

-- those of some slots that are slot k
abbrev pub those : (k : ℕ) → List ℕ → List ℕ
those k l = keep (λ c. eqb c k) l

-- an entry that is "in" or not stands in the "in" slot, or in the "aft" slot
abbrev pub on_side : (aft is_in : Bool) → Bool
on_side false e = e
on_side true e = not e

slot-eqb : (L i j : ℕ) (e aft : Bool) → eqb (slot_number L i (not e)) (slot_number L j aft) ≡ eqb i j && on_side aft e
unfolding slot_number partition_number
slot-eqb L i j e aft = go (ℕ_discrete i j) e aft
  where
    go : Dec (i ≡ j) → (e aft : Bool) → eqb (slot_number L i (not e)) (slot_number L j aft) ≡ eqb i j && on_side aft e
    go (no n) true true = rw (ne_eqb i j n, ne_eqb (slot_number L i false) (slot_number L j true) (λ q. n (omega arith)))
    go (no n) true false = rw (ne_eqb i j n, ne_eqb (slot_number L i false) (slot_number L j false) (λ q. n (omega arith)))
    go (no n) false true = rw (ne_eqb i j n, ne_eqb (slot_number L i true) (slot_number L j true) (λ q. n (omega arith)))
    go (no n) false false = rw (ne_eqb i j n, ne_eqb (slot_number L i true) (slot_number L j false) (λ q. n (omega arith)))
    go (yes q) true true = rw (eq-eqb i j q, ne_eqb (slot_number L i false) (slot_number L j true) (λ p. omega arith))
    go (yes q) true false = rw (eq-eqb i j q, eq-eqb (slot_number L i false) (slot_number L j false) (omega arith))
    go (yes q) false true = rw (eq-eqb i j q, eq-eqb (slot_number L i true) (slot_number L j true) (omega arith))
    go (yes q) false false = rw (eq-eqb i j q, ne_eqb (slot_number L i true) (slot_number L j false) (λ p. omega arith))

those_one : (k c : ℕ) (b : Bool) → those k (cons_if b c []) ≡ cons_if (b && eqb c k) k []
unfolding keep
those_one k c false = refl
those_one k c true = go (eqb c k) refl
  where
    go : (b : Bool) → eqb c k ≡ b → cons_if b c [] ≡ cons_if b k []
    go true e = ap (λ (x : ℕ). x ∷ []) (eqb-true c k e)
    go false e = refl

those_append : (k : ℕ) (l j : List ℕ) → those k (l ++ j) ≡ those k l ++ those k j
unfolding keep
those_append k [] j = refl
those_append k (c ∷ l) j = go (eqb c k) (those_append k l j)
  where
    go : (b : Bool) → those k (l ++ j) ≡ those k l ++ those k j → cons_if b c (those k (l ++ j)) ≡ cons_if b c (those k l) ++ those k j
    go true e = ap (λ (x : List ℕ). c ∷ x) e
    go false e = e

regroup : (a b c d : Bool) → (a && b) && (c && d) ≡ (a && c) && (b && d)
regroup true true c d = refl
regroup true false true d = refl
regroup true false false d = refl
regroup false b c d = refl

no_test : (x b c : Bool) (k : ℕ) → cons_if ((x && false) && b) k [] ≡ cons_if ((x && false) && c) k []
no_test true b c k = refl
no_test false b c k = refl

those_visit : (half : Half) (test : Bool) (L i j ca cb : ℕ) (aft : Bool)
    → those (slot_number L j aft) (visit half test L i ca cb)
    ≡ cons_if ((test && eqb i j) && (in_half half (eqb ca j) && on_side aft (eqb cb j))) (slot_number L j aft) []
unfolding visit
those_visit half test L i j ca cb aft =
    let k = slot_number L j aft in
    let at : ℕ → Bool = λ x. in_half half (eqb ca x) && on_side aft (eqb cb x) in
    those_one k (slot_number L i (not (eqb cb i))) (test && in_half half (eqb ca i))
    ∙ rw (slot-eqb L i j (eqb cb i) aft, regroup test (in_half half (eqb ca i)) (eqb i j) (on_side aft (eqb cb i))) (go (ℕ_discrete i j))
  where
    go : Dec (i ≡ j)
        → cons_if ((test && eqb i j) && (in_half half (eqb ca i) && on_side aft (eqb cb i))) (slot_number L j aft) []
        ≡ cons_if ((test && eqb i j) && (in_half half (eqb ca j) && on_side aft (eqb cb j))) (slot_number L j aft) []
    go (yes q) = ap (λ (x : ℕ). cons_if ((test && eqb i j) && (in_half half (eqb ca x) && on_side aft (eqb cb x))) (slot_number L j aft) []) q
    go (no n) = rw (ne_eqb i j n) (no_test test (in_half half (eqb ca i) && on_side aft (eqb cb i))
        (in_half half (eqb ca j) && on_side aft (eqb cb j)) (slot_number L j aft))

-- ---- every slot that is visited is one of the levels that the walk has

below-append : {n : ℕ} {l k : List ℕ} → Below n l → Below n k → Below n (l ++ k)
below-append none b = b
below-append (also h a) b = also h (below-append a b)

-- each of some numbers below n is below n
pub below_at : {n : ℕ} {l : List ℕ} → Below n l → (j : ℕ) → j < length l → get_or l j 0 < n
below_at none j h = absurd (omega arith)
below_at (also p b) zero h = p
below_at (also p b) (suc j) h = below_at b j (omega arith)

pub below_more : {n k : ℕ} {l : List ℕ} → n ≤ k → Below n l → Below k l
below_more h none = none
below_more h (also {c = c} p b) = also {c = c} (omega arith) (below_more h b)

-- the slots of the levels before level n
abbrev slots_to : (n : ℕ) → ℕ
slots_to n = 2 * (2 ^ n - 1)

slot-low : (L i : ℕ) (aft : Bool) → slots_to L ≤ slot_number L i aft
unfolding slot_number partition_number
slot-low L i aft = omega arith

slot-high : (L i : ℕ) (aft : Bool) → i < 2 ^ L → slot_number L i aft < slots_to (suc L)
unfolding slot_number partition_number
slot-high L i true h = omega (arith, two-pow-succ L)
slot-high L i false h = omega (arith, two-pow-succ L)

below-visit : (half : Half) (test : Bool) (L i ca cb : ℕ) → (T test → i < 2 ^ L) → Below (slots_to (suc L)) (visit half test L i ca cb)
unfolding visit
below-visit half test L i ca cb h = go (test && in_half half (eqb ca i)) refl
  where
    go : (b : Bool) → test && in_half half (eqb ca i) ≡ b → Below (slots_to (suc L)) (cons_if b (slot_number L i (not (eqb cb i))) [])
    go true e = also (slot-high L i (not (eqb cb i)) (h (of_and test (in_half half (eqb ca i)) (rw e tt)).0)) none
    go false e = none

below-walk : (half : Half) (n lo hi ca cb : ℕ) → hi * 2 ≤ 2 ^ n → Below (slots_to n) (walk half n lo hi ca cb)
unfolding walk
below-walk half zero lo hi ca cb h = none
below-walk half (suc L) lo hi ca cb h =
    let p = two-pow-succ L in
    below-append
    (below-visit half (ltb lo hi && eqb (lo % 2) 1) L lo ca cb (λ t. let q = ltb→lt lo hi (of_and (ltb lo hi) (eqb (lo % 2) 1) t).0 in omega arith))
    (below-append
    (below-visit half (ltb lo hi && eqb (hi % 2) 1) L (hi / 2 * 2) ca cb
    (λ t. let q = eqb→eq (hi % 2) 1 (of_and (ltb lo hi) (eqb (hi % 2) 1) t).1 in omega arith))
    (below_more (omega (arith, pow_pos L)) (below-walk half L ((lo + 1) / 2) (hi / 2) (ca / 2) (cb / 2) (omega arith))))

those_none : {n : ℕ} {l : List ℕ} (k : ℕ) → Below n l → n ≤ k → those k l ≡ []
unfolding keep
those_none k none h = refl
those_none k (also {c = c} {l = l} p b) h = rw (ne_eqb c k (λ e. omega arith)) (those_none k b h)

-- ---- the law of the walk

either : (p q w : Bool) (k : ℕ) → (T p → T q → ⊥) → cons_if (p && w) k [] ++ (cons_if (q && w) k [] ++ []) ≡ cons_if ((p || q) && w) k []
either true true w k f = absurd (f tt tt)
either true false true k f = refl
either true false false k f = refl
either false true true k f = refl
either false true false k f = refl
either false false w k f = refl

module _ (m a b : ℕ) (half : Half) where
  -- the trip is held by partition j of level K, and its entry is one of the half, "aft" or not
  abbrev pub there_in : (K j : ℕ) → (aft : Bool) → Bool
  there_in K j aft = holds m K j a b && (in_half half (eqb (cell_up m K a) j) && on_side aft (eqb (cell_up m K b) j))

  -- a level's own slots
  at_level : (L lo hi : ℕ) → L ≤ m → hi * 2 ≤ 2 ^ suc L → Covered m L a b lo hi → (j : ℕ) (aft : Bool)
      → those (slot_number L j aft) (walk half (suc L) lo hi (cell_up m L a) (cell_up m L b)) ≡ cons_if (there_in L j aft) (slot_number L j aft) []
  unfolding walk
  at_level L lo hi h f w j aft =
      let k = slot_number L j aft in
      let ca = cell_up m L a in
      let cb = cell_up m L b in
      let v₁ = visit half (ltb lo hi && eqb (lo % 2) 1) L lo ca cb in
      let v₂ = visit half (ltb lo hi && eqb (hi % 2) 1) L (hi / 2 * 2) ca cb in
      let rest = walk half L ((lo + 1) / 2) (hi / 2) (ca / 2) (cb / 2) in
      let up = below-walk half L ((lo + 1) / 2) (hi / 2) (ca / 2) (cb / 2) (omega (arith, two-pow-succ L)) in
      let z : those k rest ≡ [] = those_none k up (slot-low L j aft) in
      let W = in_half half (eqb ca j) && on_side aft (eqb cb j) in
      those_append k v₁ (v₂ ++ rest)
      ∙ ap (λ (x : List ℕ). those k v₁ ++ x) (those_append k v₂ rest ∙ ap (λ (x : List ℕ). those k v₂ ++ x) z)
      ∙ rw (
        those_visit half (ltb lo hi && eqb (lo % 2) 1) L lo j ca cb aft,
        those_visit half (ltb lo hi && eqb (hi % 2) 1) L (hi / 2 * 2) j ca cb aft,
      )
      (either (low lo hi j) (high lo hi j) W k (not_both lo hi j) ∙ ap (λ (x : Bool). cons_if (x && W) k []) (sym (low_or_high m L a b lo hi j h f w)))

  -- a slot of a higher level is not one of level L's
  elsewhere : (L K i j ca cb : ℕ) (test aft : Bool) → K < L → j < 2 ^ K → those (slot_number K j aft) (visit half test L i ca cb) ≡ []
  unfolding visit
  elsewhere L K i j ca cb test aft h l =
      let c = slot_number L i (not (eqb cb i)) in
      let k = slot_number K j aft in
      let ne : c ≡ k → ⊥ = λ e. omega (arith, slot-low L i (not (eqb cb i)), slot-high K j aft l, pow_mono {i = suc K} {j = L} (omega arith)) in
      those_one k c (test && in_half half (eqb ca i)) ∙ rw (ne_eqb c k ne) (never (test && in_half half (eqb ca i)) k)
    where
      never : (x : Bool) (k : ℕ) → cons_if (x && false) k [] ≡ []
      never true k = refl
      never false k = refl

  walked : (L lo hi : ℕ) → L ≤ m → hi * 2 ≤ 2 ^ suc L → Covered m L a b lo hi → (K j : ℕ) (aft : Bool) → K ≤ L → j < 2 ^ K
      → those (slot_number K j aft) (walk half (suc L) lo hi (cell_up m L a) (cell_up m L b)) ≡ cons_if (there_in K j aft) (slot_number K j aft) []
  unfolding walk
  walked zero lo hi h f w K j aft k l = let e : K ≡ 0 = omega arith in rw e (at_level 0 lo hi h f w j aft)
  walked (suc L) lo hi h f w K j aft k l =
      go (ℕ_discrete K (suc L)) (walked L ((lo + 1) / 2) (hi / 2) (omega arith) (omega (arith, two-pow-succ (suc L))) (higher m L a b lo hi h w) K
      j aft)
    where
      go : Dec (K ≡ suc L)
          → (K ≤ L → j < 2 ^ K → those (slot_number K j aft) (walk half (suc L) ((lo + 1) / 2) (hi / 2) (cell_up m L a) (cell_up m L b))
          ≡ cons_if (there_in K j aft) (slot_number K j aft) [])
          → those (slot_number K j aft) (walk half (suc (suc L)) lo hi (cell_up m (suc L) a) (cell_up m (suc L) b))
          ≡ cons_if (there_in K j aft) (slot_number K j aft) []
      go (yes e) ih = rw e (at_level (suc L) lo hi h f w j aft)
      go (no n) ih =
          let s = slot_number K j aft in
          let ca = cell_up m (suc L) a in
          let cb = cell_up m (suc L) b in
          let t₁ = ltb lo hi && eqb (lo % 2) 1 in
          let t₂ = ltb lo hi && eqb (hi % 2) 1 in
          let v₁ = visit half t₁ (suc L) lo ca cb in
          let v₂ = visit half t₂ (suc L) (hi / 2 * 2) ca cb in
          let rest = walk half (suc L) ((lo + 1) / 2) (hi / 2) (ca / 2) (cb / 2) in
          those_append s v₁ (v₂ ++ rest)
          ∙ ap₂ ◌++◌ (elsewhere (suc L) K lo j ca cb t₁ aft (omega arith) l)
          (those_append s v₂ rest ∙ ap₂ ◌++◌ (elsewhere (suc L) K (hi / 2 * 2) j ca cb t₂ aft (omega arith) l) refl)
          ∙ rw (← up_half m L a h, ← up_half m L b h) (ih (omega arith) l)

  slots_walked : b < 2 ^ m → (K j : ℕ) (aft : Bool) → K ≤ m → j < 2 ^ K
      → those (slot_number K j aft) (slots_of half m a b) ≡ cons_if (there_in K j aft) (slot_number K j aft) []
  unfolding slots_of
  slots_walked h K j aft k l =
      let w = walked m a (b + 1) (omega arith) (omega (arith, two-pow-succ m)) (bottom m a b) K j aft k l in
      rw (up_bottom m a, up_bottom m b) at w

-- ---- for a trip and a slot of a half

of_subdivision : (half : Half) (o e aft : Bool) → is_of (subdivision_of half aft) o e ≡ in_half half o && on_side aft e
unfolding is_of subdivision_of
of_subdivision Originals o e false = refl
of_subdivision Originals o e true = refl
of_subdivision Replicas o e false = refl
of_subdivision Replicas o e true = refl

-- slot k is slot k of its own partition
slot_again : (m k : ℕ) → k < 2 * partitions m → slot_number (level_of m (k / 2)) (place_of m (k / 2)) (eqb (k % 2) 1) ≡ k
unfolding slot_number
slot_again m k h = rw (number_place m (k / 2) (omega arith)) (go (eqb (k % 2) 1) refl)
  where
    go : (b : Bool) → eqb (k % 2) 1 ≡ b → 2 * (k / 2) + cond b 1 0 ≡ k
    go true e = omega (arith, eqb-true (k % 2) 1 e)
    go false e = let f : k % 2 ≡ 1 → ⊥ = eqb-false (k % 2) 1 e in omega arith

-- slot k stands once among the slots of the trip where the trip belongs in it, and else not
pub walk_once : (s : Scale) (half : Half) (t : Trip) (k : ℕ) → s.cell t.end < 2 ^ s.m → k < 2 * partitions s.m
    → those k (slots_of_trip s half t) ≡ cons_if (in_slot s half k t) k []
unfolding slots_of_trip belongs holds_trip is_original is_in
walk_once s half t k b h =
    let m = s.m in
    let L = level_of m (k / 2) in
    let i = place_of m (k / 2) in
    let aft = eqb (k % 2) 1 in
    let d = numbered m (k / 2) (omega arith) in
    let cells = slots_of half m (s.cell t.start) (s.cell t.end) in
    subst (λ (n : ℕ). those n cells ≡ cons_if (in_slot s half k t) n []) (slot_again m k h)
    (slots_walked m (s.cell t.start) (s.cell t.end) half b L i aft d.deep (place_lt m (k / 2) (omega arith))
    ∙ ap (λ (x : Bool). cons_if (holds_trip s L i t && x) (slot_number L i aft) []) (sym (of_subdivision half (is_original s L i t) (is_in s L i t) aft)))

-- and every one of them is a slot of the half
pub walk-below : (s : Scale) (half : Half) (t : Trip) → s.cell t.end < 2 ^ s.m → Below (2 * partitions s.m) (slots_of_trip s half t)
unfolding slots_of_trip slots_of partitions
walk-below s half t b = rw add-one (below-walk half (suc s.m) (s.cell t.start) (s.cell t.end + 1) _ _ (omega (arith, two-pow-succ s.m)))

-- ---- how long the walk is

-- at most two slots of each level
pub visit-few : (half : Half) (test : Bool) (L i ca cb : ℕ) → length (visit half test L i ca cb) ≤ 1
unfolding visit
visit-few half test L i ca cb = go (test && in_half half (eqb ca i))
  where
    go : (b : Bool) → length (cons_if b (slot_number L i (not (eqb cb i))) []) ≤ 1
    go true = omega arith
    go false = omega arith

pub walk-few : (half : Half) (n lo hi ca cb : ℕ) → length (walk half n lo hi ca cb) ≤ 2 * n
unfolding walk
walk-few half zero lo hi ca cb = omega arith
walk-few half (suc L) lo hi ca cb =
    let t₁ = ltb lo hi && eqb (lo % 2) 1 in
    let t₂ = ltb lo hi && eqb (hi % 2) 1 in
    let v₁ = visit half t₁ L lo ca cb in
    let v₂ = visit half t₂ L (hi / 2 * 2) ca cb in
    let rest = walk half L ((lo + 1) / 2) (hi / 2) (ca / 2) (cb / 2) in
    let one = visit-few half t₁ L lo ca cb in
    let two = visit-few half t₂ L (hi / 2 * 2) ca cb in
    let more = walk-few half L ((lo + 1) / 2) (hi / 2) (ca / 2) (cb / 2) in
    omega (arith, length-append v₁ (v₂ ++ rest), length-append v₂ rest)

-- with no level left, nothing more is visited
pub walk_none : (half : Half) (lo hi ca cb : ℕ) → walk half 0 lo hi ca cb ≡ []
unfolding walk
walk_none half lo hi ca cb = refl

-- with no partition left, nothing more is visited
pub walk_ends : (half : Half) (n lo hi ca cb : ℕ) → hi ≤ lo → walk half n lo hi ca cb ≡ []
unfolding walk visit
walk_ends half zero lo hi ca cb h = refl
walk_ends half (suc L) lo hi ca cb h =
    rw (le-ltb lo hi h) (walk_ends half L ((lo + 1) / 2) (hi / 2) (ca / 2) (cb / 2) (omega arith))
