-- Lists of matches joined one after another, as a walk goes through them: a visitor that can take them all can take the next one, and has then
-- taken one more.
use mathlib.Core.Path.{◌≡◌, refl}
use mathlib.Core.List.{List, [], ◌++◌}
use Prim.Native.Nat.{ℕ, ◌+◌, ◌-◌, ◌≤◌, ◌<◌}
use native.Mathlib.Numerals.{add-one}
use native.Mathlib.Omega.{arith}
use Rattle.lists.specs.Lists.{joined}
use Rattle.lists.proofs.Joined.{joined-add}
use Rattle.trip.specs.declared.Trip.{Trip}

pub row_none : (f : ℕ → List Trip) → joined f 0 ≡ []
unfolding joined
row_none f = refl

row_more : (f : ℕ → List Trip) (k : ℕ) → joined f (k + 1) ≡ joined f k ++ f k
unfolding joined
row_more f k = rw (add-one k)

-- before the first turn nothing is taken, where all are left
pub none_taken : {V : Type 0} (Took : V → List Trip → V → Type 0) → ((a : V) → Took a [] a) → (f : ℕ → List Trip) (n left : ℕ) → n ≤ left → {a : V}
    → Took a (joined f (n - left)) a
none_taken Took none f n left h {a} = let e : n - left ≡ 0 = omega arith in rw (e, row_none f) (none a)

-- the laws of a visitor that a turn uses
module _ {V : Type 0} (CanTake : V → List Trip → Type 0) (Took : V → List Trip → V → Type 0)
    (more : (a b c : V) (ts us : List Trip) → CanTake a (ts ++ us) → Took a ts b → Took b us c → Took a (ts ++ us) c)
    (first : (a : V) (ts us : List Trip) → CanTake a (ts ++ us) → CanTake a ts)
    (rest : (a b : V) (ts us : List Trip) → CanTake a (ts ++ us) → Took a ts b → CanTake b us) where
  -- of n lists f, the first k are taken, and ts is the next
  module _ (f : ℕ → List Trip) (k n : ℕ) {a b : V} {ts : List Trip} (h : k < n) (can : CanTake a (joined f n)) (so_far : Took a (joined f k) b)
      (next : ts ≡ f k) where
    with_next : CanTake a (joined f k ++ f k)
    with_next =
        let e : n ≡ (k + 1) + (n - (k + 1)) = omega arith in
        first a (joined f k ++ f k) _ (rw (e, joined-add f (k + 1) (n - (k + 1)), row_more f k) at can)

    pub turn_can : CanTake b ts
    turn_can = rw next (rest a b (joined f k) (f k) with_next so_far)

    pub turn_took : {c : V} → Took b ts c → Took a (joined f (k + 1)) c
    turn_took {c} one = rw (row_more f k) (more a b c (joined f k) (f k) with_next so_far (rw next at one))
