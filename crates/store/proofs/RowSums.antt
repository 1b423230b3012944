-- A turn and the end of a sum over the rows of a part.
use mathlib.Core.Path.{◌≡◌, ap, ◌∙◌}
use mathlib.Core.List.{List, ◌∷◌}
use Prim.Native.Nat.{ℕ, suc, ◌+◌, ◌/◌, ◌≤◌, ◌<◌}
use native.Mathlib.Numerals.{add-one}
use native.Mathlib.Omega.{arith}
use lib.ListN.{length, drop, drop_of_length-le}
use lib.Seq.{drop-cons}
use Rattle.lists.specs.Lists.{sum_over}
use Rattle.trip.specs.declared.Trip.{Trip}
use Rattle.layout.specs.Words.{entry_words, trip_at, rows}
use Rattle.layout.proofs.Rows.{length-rows, get_or_rows}
use Rattle.store.specs.Ordered.{no_trip}

pub sum_turn : (f : Trip → ℕ) (part : List ℕ) (i sum : ℕ) → i < length part / entry_words
    → sum + f (trip_at part i) + sum_over f (drop (i + 1) (rows part)) ≡ sum + sum_over f (drop i (rows part))
unfolding sum_over
sum_turn f part i sum h =
    let split : drop i (rows part) ≡ trip_at part i ∷ drop (i + 1) (rows part) =
    rw (add-one i) (drop-cons (rows part) i no_trip (rw length-rows h)
    ∙ ap (λ (u : Trip). u ∷ drop (suc i) (rows part)) (get_or_rows part i no_trip h)) in
    rw split (omega arith)

pub sum_end : (f : Trip → ℕ) (part : List ℕ) (i : ℕ) → length part / entry_words ≤ i → sum_over f (drop i (rows part)) ≡ 0
unfolding sum_over
sum_end f part i h = ap (sum_over f) (drop_of_length-le (rows part) {i = i} (rw length-rows h))
