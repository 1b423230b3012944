-- What the code knows after each group of tests, and the words of all entries as it lends them.
use mathlib.Core.Path.{◌≡◌, ◌∙◌}
use mathlib.Core.Bool.{true, ◌&&◌}
use mathlib.Core.List.{List}
use Prim.Native.Nat.{ℕ, ◌-◌, ◌*◌, ◌/◌, ◌%◌, ◌≤◌, ◌<◌}
use native.Mathlib.Nat.{sub-zero}
use native.Mathlib.Omega.{arith}
use lib.Dec.{leb, eqb, leb→le}
use lib.ListN.{length, get_or, take, drop}
use lib.Seq.{length-take-le}
use Rattle.lists.specs.Lists.{joined}
use Rattle.lists.proofs.Tests.{of_and, to_T, of_T}
use Rattle.lists.proofs.Members.{of_joined}
use Rattle.ruler.specs.Ruler.{Scale, most_trips}
use Rattle.layout.specs.declared.Half.{Half}
use Rattle.layout.specs.declared.Half.TheVariants.{Originals, Replicas}
use Rattle.layout.specs.Stored.{subdivision_of}
use Rattle.layout.specs.Words.{entry_words, rows, partitions, half_length}
use Rattle.layout.specs.Refusals.{fits}
use Rattle.layout.proofs.Rows.{whole}
use Rattle.layout.proofs.RowOrder.{slot-order}
use Rattle.store.specs.Halves.{total}
use Rattle.verify.specs.Passing.{rising, blank, each}
use Rattle.verify.specs.Local.{half_ok, slot_at, stands_at, slot_ok, slots_ok, trips_of, halves_ok, all_slots_ok}
use Rattle.verify.proofs.Passing.{of_below, to_each, row_passes}
use Rattle.verify.proofs.SlotsCut.{of_half, trips_cut}

pub of_halves : (o orig r repl : List ℕ) → halves_ok o orig r repl ≡ true → (half_ok o orig ≡ true) × (half_ok r repl ≡ true)
unfolding halves_ok
of_halves o orig r repl e = let w = of_and (half_ok o orig) (half_ok r repl) (to_T e) in (of_T _ w.0, of_T _ w.1)

pub of_slots : (s : Scale) (o orig r repl : List ℕ) → all_slots_ok s o orig r repl ≡ true
    → (total o ≤ most_trips) × (slots_ok s Originals o orig ≡ true) × (slots_ok s Replicas r repl ≡ true)
unfolding all_slots_ok
of_slots s o orig r repl e =
    let a = of_and (leb (total o) most_trips) (slots_ok s Originals o orig && slots_ok s Replicas r repl) (to_T e) in
    let b = of_and (slots_ok s Originals o orig) (slots_ok s Replicas r repl) a.1 in
    (leb→le (total o) most_trips a.0, of_T _ b.0, of_T _ b.1)

-- a half has a word
pub some_words : (m : ℕ) → 0 < half_length m
unfolding half_length
some_words m = omega arith

-- the entries of a half that passes fit its arena
pub half_room : (dir arena : List ℕ) → half_ok dir arena ≡ true → entry_words * total dir ≤ length arena
unfolding half_ok
half_room dir arena e =
    let u = entry_words * total dir in
    let a = of_and (eqb (get_or dir 0 0) 0) (rising (get_or dir 0 0) (drop 1 dir) && (leb u (length arena) && blank (drop u arena))) (to_T e) in
    let b = of_and (rising (get_or dir 0 0) (drop 1 dir)) (leb u (length arena) && blank (drop u arena)) a.1 in
    leb→le u (length arena) (of_and (leb u (length arena)) (blank (drop u arena)) b.1).0

module _ (dir arena : List ℕ) (u : ℕ) (e : u ≡ entry_words * total dir) where
  pub all_rows : rows (take (u - 0) arena) ≡ trips_of dir arena
  unfolding trips_of
  all_rows = rw (sub-zero, e)

  pub few-rows : half_ok dir arena ≡ true → total dir ≤ most_trips → length (take (u - 0) arena) / entry_words ≤ most_trips
  few-rows h few = rw (sub-zero, e, length-take-le (entry_words * total dir) arena (half_room dir arena h), whole) few

  -- and where its slots pass, they fit
  pub all_fit : (s : Scale) (h : Half) → length dir ≡ half_length s.m → half_ok dir arena ≡ true → slots_ok s h dir arena ≡ true
      → each (fits s) (rows (take (u - 0) arena)) ≡ true
  unfolding half_length slots_ok slot_ok stands_at
  all_fit s h long half slots =
      let n = 2 * partitions s.m in
      let f = slot_at dir arena in
      let last : length dir - 1 ≡ n = omega (arith, long) in
      let cut = of_half dir arena n long (to_T half) in
      let trips = all_rows ∙ trips_cut dir arena n cut long in
      rw trips (of_T _ (to_each (fits s) (joined f n) (λ t m.
      let w = of_joined f n t m in
      let row = of_below (λ k. slot_ok s h k (f k)) _ (to_T slots) w.0 (omega (arith, w.1)) in
      let d = subdivision_of h (eqb (w.0 % 2) 1) in
      (of_and (fits s t) _ (row_passes _ (slot-order d) (f w.0) row t w.2)).0)))
