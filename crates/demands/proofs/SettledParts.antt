-- The same for the functions of `store` and `edit` whose contracts say which slots the words hold, and not which words: slots have one directory, and
-- one arena of each length (and no call changes the length of what it is lent).
use mathlib.Core.Path.{◌≡◌, sym, ap, ◌∙◌}
use mathlib.Core.List.{List, ◌++◌, map}
use Prim.Native.Nat.{ℕ}
use native.Mathlib.Omega.{arith}
use lib.ListN.{length, replicate, length-append, length-replicate}
use Rattle.trip.specs.declared.Trip.{Trip}
use Rattle.layout.specs.Words.{words}
use Rattle.store.specs.Slots.{flat, Holds}
use Rattle.store.specs.Filling.{region, Filling}
use Rattle.store.proofs.Regions.{full-holds}

-- two lists of one length that go on with zeros after the same words
one_padded : (front a b : List ℕ) (n k : ℕ) → a ≡ front ++ replicate n 0 → b ≡ front ++ replicate k 0 → length a ≡ length b → a ≡ b
one_padded front a b n k e f l =
    let long : length (front ++ replicate n 0) ≡ length (front ++ replicate k 0) = ap length (sym e) ∙ l ∙ ap length f in
    let same : n ≡ k = omega (arith, simp (length-append, length-replicate) at long) in
    e ∙ ap (λ (i : ℕ). front ++ replicate i 0) same ∙ sym f

-- `insert` and `remove` of a slot, and `at_slot` of an edit
pub slots_settled : (d e a b : List ℕ) (slots : List (List Trip)) → Holds d a slots → Holds e b slots → length a ≡ length b → (d ≡ e) × (a ≡ b)
slots_settled d e a b slots h g l =
    (h.counts ∙ sym g.counts, one_padded (words (flat slots)) a b h.free g.free h.entries g.entries l)

-- a half that was filled by `place`, once no room is left: what stands in a room before its entry does is left open
pub regions_settled : (d e a b : List ℕ) (slots : List (List Trip)) → Filling d a (map (region 0) slots) → Filling e b (map (region 0) slots)
    → length a ≡ length b → (d ≡ e) × (a ≡ b)
regions_settled d e a b slots h g l = slots_settled d e a b slots (full-holds d a slots h) (full-holds e b slots g) l
