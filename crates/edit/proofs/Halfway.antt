-- An edit half way: the first of the trip's slots are changed and the others are not yet. One law for an addition and a removal.
use mathlib.Core.Path.{◌≡◌, refl, sym, ap, ◌∙◌}
use mathlib.Core.Bool.{Bool, true, false, cond, ◌||◌}
use mathlib.Core.List.{List, [], ◌∷◌, ◌++◌}
use Prim.Native.Nat.{ℕ, zero, suc, ◌+◌, ◌≤◌, ◌<◌}
use native.Mathlib.Nat.{le_of_suc-le-suc, not-suc-le-zero}
use native.Mathlib.Numerals.{add-one}
use native.Mathlib.Omega.{arith}
use lib.Dec.{eqb}
use lib.ListN.{length, get_or, set, take, drop}
use lib.Seq.{take-suc, split_at, take-length}
use borrow.Author.Tests.{eq-eqb, ne_eqb}
use Rattle.lists.specs.Lists.{cons_if, keep, up_to}
use Rattle.lists.proofs.Joined.{joined_le}
use Rattle.lists.proofs.Upto.{up_to_ext}
use Rattle.trip.specs.declared.Trip.{Trip}
use Rattle.store.proofs.TripWalk.{those}
use Rattle.store.specs.TripWalk.{Below, none, also}
use Rattle.store.specs.Slots.{flat}
use Rattle.edit.specs.SlotSteps.{among, halfway}
use Rattle.store.proofs.LayoutHeld.{flat-up_to, changed_slot}

-- ---- which slots are among some spots

among-append : (k : ℕ) (l m : List ℕ) → among k (l ++ m) ≡ among k l || among k m
unfolding among
among-append k [] m = refl
among-append k (c ∷ l) m = go (eqb c k) (among-append k l m)
  where
    go : (b : Bool) → among k (l ++ m) ≡ among k l || among k m → b || among k (l ++ m) ≡ (b || among k l) || among k m
    go true e = refl
    go false e = e

-- as many are slot k as the test says, so the test says whether slot k is among them
pub among_those : (k : ℕ) (l : List ℕ) (b : Bool) → those k l ≡ cons_if b k [] → among k l ≡ b
unfolding among keep
among_those k [] true e = absurd (omega (arith, ap length e))
among_those k [] false e = refl
among_those k (c ∷ l) b e = go (eqb c k) b e (among_those k l b)
  where
    go : (a b : Bool) → cons_if a c (those k l) ≡ cons_if b k [] → (those k l ≡ cons_if b k [] → among k l ≡ b) → a || among k l ≡ b
    go true true q ih = refl
    go true false q ih = absurd (omega (arith, ap length q))
    go false b q ih = ih q

-- and at most one is
pub few_once : (b : Bool) (k : ℕ) {l : List ℕ} → l ≡ cons_if b k [] → length l ≤ 1
few_once true k e = omega (arith, ap length e)
few_once false k e = omega (arith, ap length e)

some-there : (k : ℕ) (p q : List ℕ) → 1 ≤ length (those k (p ++ (k ∷ q)))
unfolding keep
some-there k [] q = rw (eq-eqb k k (λ i. k)) (omega arith)
some-there k (c ∷ p) q = go (eqb c k) (some-there k p q)
  where
    go : (b : Bool) → 1 ≤ length (those k (p ++ (k ∷ q))) → 1 ≤ length (cons_if b c (those k (p ++ (k ∷ q))))
    go true h = omega arith
    go false h = h

-- a spot that stands once is not among those before it
not-before : (k : ℕ) (p q : List ℕ) → length (those k (p ++ (k ∷ q))) ≤ 1 → among k p ≡ false
unfolding among keep
not-before k [] q h = refl
not-before k (c ∷ p) q h = go (eqb c k) h (not-before k p q)
  where
    go : (b : Bool) → length (cons_if b c (those k (p ++ (k ∷ q)))) ≤ 1 → (length (those k (p ++ (k ∷ q))) ≤ 1 → among k p ≡ false)
        → b || among k p ≡ false
    go true g ih = absurd (omega (arith, some-there k p q))
    go false g ih = ih g

among-here : (k : ℕ) (p q : List ℕ) → among k (p ++ (k ∷ q)) ≡ true
unfolding among
among-here k p q = among-append k p (k ∷ q) ∙ rw (eq-eqb k k (λ i. k)) (go (among k p))
  where
    go : (b : Bool) → b || true ≡ true
    go true = refl
    go false = refl

below_at : {n : ℕ} {l : List ℕ} → Below n l → (j : ℕ) → j < length l → get_or l j 0 < n
below_at none j h = absurd (not-suc-le-zero h)
below_at (also p b) zero h = p
below_at (also p b) (suc j) h = below_at b j (le_of_suc-le-suc h)

-- ---- the spots of an edit

-- f are the slots before, g those after it: a slot of 0 .. n - 1 stands at most once among the spots, and not where it stays
pub record Spots (f g : ℕ → List Trip) (n : ℕ) (cs : List ℕ) : Type 0 where
  pub below : Below n cs
  pub once : (k : ℕ) → k < n → length (those k cs) ≤ 1
  pub others : (k : ℕ) → k < n → among k cs ≡ false → g k ≡ f k

pub spot_among : (cs : List ℕ) (j : ℕ) → j < length cs → among (get_or cs j 0) cs ≡ true
spot_among cs j h = ap (among (get_or cs j 0)) (split_at cs j 0 h) ∙ among-here (get_or cs j 0) (take j cs) (drop (suc j) cs)

module _ (f g : ℕ → List Trip) (n : ℕ) (cs : List ℕ) (w : Spots f g n cs) where
  pub halfway_start : up_to (halfway f g cs 0) n ≡ up_to f n
  unfolding halfway among
  halfway_start = up_to_ext (halfway f g cs 0) f n (λ k l. refl)

  pub halfway_end : up_to (halfway f g cs (length cs)) n ≡ up_to g n
  unfolding halfway
  halfway_end = up_to_ext (halfway f g cs (length cs)) g n (λ k l. rw take-length (go k l (among k cs) refl))
    where
      go : (k : ℕ) → k < n → (b : Bool) → among k cs ≡ b → cond b (g k) (f k) ≡ g k
      go k l true e = refl
      go k l false e = sym (w.others k l e)

  module _ (j : ℕ) (h : j < length cs) where
    pub spot_in : get_or cs j 0 < n
    spot_in = below_at w.below j h

    not_yet : among (get_or cs j 0) (take j cs) ≡ false
    not_yet =
        let c = get_or cs j 0 in
        not-before c (take j cs) (drop (suc j) cs) (rw (← split_at cs j 0 h) (w.once c spot_in))

    next : (k : ℕ) → among k (take (j + 1) cs) ≡ among k (take j cs) || (eqb (get_or cs j 0) k || false)
    unfolding among
    next k = rw (add-one j, take-suc cs j 0 h) (among-append k (take j cs) (get_or cs j 0 ∷ []))

    -- the slot of spot j is still as it was
    pub halfway_here : halfway f g cs j (get_or cs j 0) ≡ f (get_or cs j 0)
    unfolding halfway
    halfway_here = rw not_yet

    -- spot j is changed
    pub halfway_turn : (change : List Trip → List Trip) → g (get_or cs j 0) ≡ change (f (get_or cs j 0))
        → set (up_to (halfway f g cs j) n) (get_or cs j 0) (change (get_or (up_to (halfway f g cs j) n) (get_or cs j 0) [])) ≡ up_to (halfway f g cs (j + 1)) n
    unfolding halfway
    halfway_turn change e =
        let c = get_or cs j 0 in
        changed_slot change (halfway f g cs j) (halfway f g cs (j + 1)) n c spot_in
        (rw (next c, not_yet, eq-eqb c c (λ i. c)) e)
        (λ k l q. rw (next k, ne_eqb c k (λ z. q (sym z))) (ap (λ (b : Bool). cond b (g k) (f k)) (or_false (among k (take j cs)))))
      where
        or_false : (b : Bool) → b || false ≡ b
        or_false true = refl
        or_false false = refl

  -- no more entries than after the edit, where no slot loses any
  pub halfway_most : ((k : ℕ) → length (f k) ≤ length (g k)) → (j : ℕ) → length (flat (up_to (halfway f g cs j) n)) ≤ length (flat (up_to g n))
  unfolding halfway
  halfway_most m j =
      rw (flat-up_to (halfway f g cs j) n, flat-up_to g n) (joined_le (halfway f g cs j) g n (λ k. go k (among k (take j cs))))
    where
      go : (k : ℕ) (b : Bool) → length (cond b (g k) (f k)) ≤ length (g k)
      go k true = omega arith
      go k false = m k
