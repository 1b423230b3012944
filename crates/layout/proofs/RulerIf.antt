-- What is known where a chain gives a ruler, and where it refuses.
use Rattle.std.proofs.Common.{◌≡◌, ℕ, refl, true, Option, Some, None, Ok, Err}
use Rattle.ruler.specs.declared.Ruler.{Ruler}
use Rattle.ruler.specs.declared.Numbers.{Numbers}
use Rattle.ruler.specs.Ruler.{in_bounds}
use Rattle.ruler.specs.Made.{judge}
use Rattle.ruler.proofs.RulerMade.{MadeOf, ruler_is, judged_good, judged_out}
use Rattle.layout.specs.declared.Refusal.{Refusal}
use Rattle.layout.specs.declared.Rejection.{Rejection}
use Rattle.layout.specs.Outcomes.{Outcome, Accepted, Refused, rejection, ruler_if}
use Rattle.layout.specs.Refusals.{detail_of}

-- the ruler is that of the numbers, and the chain accepts
pub ruler_known : (n : Numbers) (o : Outcome) (r : Ruler) → ruler_if (judge n) o ≡ Ok r → MadeOf n r × (o ≡ Accepted)
unfolding ruler_if
ruler_known n o r e = go (judge n) o refl e
  where
    go : (j : Option Ruler) (c : Outcome) → judge n ≡ j → ruler_if j c ≡ Ok r → MadeOf n r × (c ≡ Accepted)
    go (Some q) (Ok _) p h = (judged_good n r (rw p (let same : q ≡ r = cc in rw same)), refl)
    go None (Ok _) p h = absurd cc
    go (Some q) (Err w) p h = absurd cc
    go None (Err w) p h = absurd cc

rejected : (w : Rejection) {why : Refusal} → w.detail ≡ 0 → w.refusal ≡ why → ◌≡◌ {A = Outcome} (Err w) (Refused why 0)
rejected w d e = λ i. Err (rejection (e i) (d i))

-- a refusal of the chain, with no detail; the chain has refused where there is no ruler
pub ruler_refused : (n : Numbers) (o : Outcome) (why : Refusal) → (o ≡ Accepted → in_bounds n ≡ true) → detail_of o ≡ 0 → ruler_if (judge n) o ≡ Err why
    → o ≡ Refused why 0
unfolding ruler_if
ruler_refused n o why ok none e = go (judge n) o refl ok none e
  where
    go : (j : Option Ruler) (c : Outcome) → judge n ≡ j → (c ≡ Accepted → in_bounds n ≡ true) → detail_of c ≡ 0 → ruler_if j c ≡ Err why → c ≡ Refused why 0
    go (Some q) (Ok _) p f d h = absurd cc
    go None (Ok _) p f d h = let good = f refl in let bad = judged_out n p in absurd cc
    go (Some q) (Err w) p f d h = let same : w.refusal ≡ why = cc in rejected w d same
    go None (Err w) p f d h = let same : w.refusal ≡ why = cc in rejected w d same

pub refuses : (j : Option Ruler) {o : Outcome} (why : Refusal) (d : ℕ) → Refused why d ≡ o → Err why ≡ ruler_if j o
unfolding ruler_if
refuses j why d e = rw (← e) (go j)
  where
    go : (k : Option Ruler) → Err why ≡ ruler_if k (Refused why d)
    go (Some q) = refl
    go None = refl

pub gives_ruler : {n : Numbers} (r : Ruler) {o : Outcome} → r.numbers ≡ n → Accepted ≡ o → Ok r ≡ ruler_if (judge n) o
unfolding ruler_if
gives_ruler r same e = rw (← e, ← same, ruler_is r)
