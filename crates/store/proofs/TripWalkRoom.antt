-- How many entries more a table has with one trip more: one in each slot of the trip's walk. What the test of the arenas' room adds up.
use mathlib.Core.Path.{◌≡◌, refl, sym, ap, ◌∙◌}
use mathlib.Core.Bool.{Bool, true, false}
use mathlib.Core.List.{List, [], ◌∷◌}
use Prim.Native.Nat.{ℕ, zero, suc, ◌+◌, ◌*◌, ◌^◌, ◌<◌}
use native.Mathlib.Omega.{arith}
use lib.Dec.{eqb, eqb→eq, eqb_refl}
use lib.ListN.{length, length-append}
use Rattle.lists.specs.Lists.{cons_if, keep, joined, count, sum_to, sum_over}
use Rattle.lists.proofs.Members.{length-sort}
use Rattle.lists.proofs.Counts.{count_one}
use Rattle.lists.proofs.Sums.{exchange}
use Rattle.ruler.specs.Ruler.{Scale}
use Rattle.trip.specs.declared.Trip.{Trip}
use Rattle.layout.specs.declared.Half.{Half}
use Rattle.layout.specs.Words.{partitions, slot_trips, slot, entries_before, entries}
use Rattle.store.specs.TripWalk.{slots_of_trip, Below, none, also}
use Rattle.store.proofs.TripWalk.{those, walk_once, walk-below}
use Rattle.layout.proofs.SlotMembers.{in_slot}

-- each number below n stands once among 0 .. n - 1
ones : {n : ℕ} {l : List ℕ} → Below n l → sum_over (λ c. count (λ k. eqb c k) n) l ≡ length l
unfolding sum_over
ones none = refl
ones {n} (also {c = c} p b) =
    let once = count_one (λ k. eqb c k) n c p (eqb_refl c) (λ j l t. sym (eqb→eq c j t)) in omega (arith, ones b)

-- so the walk is as long as its slots, counted
walk-counted : {n : ℕ} {l : List ℕ} → Below n l → sum_to (λ k. length (those k l)) n ≡ length l
walk-counted {n} {l} b = exchange (λ k c. eqb c k) l n ∙ ones b

joined-more : (f g : ℕ → List Trip) (c : ℕ → ℕ) (n : ℕ) → ((k : ℕ) → k < n → length (g k) ≡ length (f k) + c k)
    → length (joined g n) ≡ length (joined f n) + sum_to c n
unfolding joined sum_to
joined-more f g c zero h = refl
joined-more f g c (suc n) h =
    rw (length-append, length-append) (omega (arith, h n (omega arith), joined-more f g c n (λ k l. h k (omega arith))))

kept_more : (b : Bool) (t : Trip) (k : ℕ) (l : List Trip) → length (cons_if b t l) ≡ length l + length (cons_if b k [])
kept_more true t k l = omega arith
kept_more false t k l = omega arith

module _ (s : Scale) (t : Trip) (inside : s.cell t.end < 2 ^ s.m) where
  slot-more : (h : Half) (ts : List Trip) (k : ℕ) → k < 2 * partitions s.m
      → length (slot s h (t ∷ ts) k) ≡ length (slot s h ts k) + length (those k (slots_of_trip s h t))
  unfolding slot slot_trips keep
  slot-more h ts k l =
      rw (length-sort, length-sort, walk_once s h t k inside l) (kept_more (in_slot s h k t) t k (keep (λ (u : Trip). in_slot s h k u) ts))

  pub entries-added : (h : Half) (ts : List Trip) → length (entries s h (t ∷ ts)) ≡ length (entries s h ts) + length (slots_of_trip s h t)
  unfolding entries entries_before
  entries-added h ts =
      let n = 2 * partitions s.m in
      joined-more (slot s h ts) (slot s h (t ∷ ts)) (λ k. length (those k (slots_of_trip s h t))) n (slot-more h ts)
      ∙ ap (λ (i : ℕ). length (joined (slot s h ts) n) + i) (walk-counted (walk-below s h t inside))
