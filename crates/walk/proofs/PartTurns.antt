-- A loop over the entries of a part that lists, or counts, those that pass a test: its start, one turn, and its end.
use mathlib.Core.Path.{◌≡◌, refl, sym, ap, ◌∙◌}
use mathlib.Core.Bool.{Bool, true, false, cond}
use mathlib.Core.List.{List, [], ◌∷◌}
use Prim.Native.Nat.{ℕ, ◌+◌, ◌/◌, ◌≤◌, ◌<◌}
use native.Mathlib.Omega.{arith}
use lib.ListN.{length, set, length-append}
use Rattle.lists.specs.Lists.{keep, up_to}
use Rattle.lists.proofs.Kept.{kept, kept_hit, kept_miss, kept_le}
use Rattle.trip.specs.declared.Trip.{Trip}
use Rattle.layout.specs.Words.{entry_words, trip_at, rows}
use Rattle.store.specs.Entries.{ids}
use Rattle.walk.specs.Part.{Listed}
use Rattle.walk.proofs.Written.{ids-append, ids-length, over-put, listed-length}

module _ (t : Trip → Bool) (l : List ℕ) where
  -- the matches among the first i entries, and among all
  abbrev pub found : ℕ → List Trip
  found = kept t (trip_at l)

  pub found_none : found 0 ≡ []
  unfolding kept up_to keep
  found_none = refl

  pub found_all : (i : ℕ) → i ≡ length l / entry_words → found i ≡ keep t (rows l)
  unfolding kept rows
  found_all i e = rw e

  -- a turn of the count
  pub count_hit : (i : ℕ) → t (trip_at l i) ≡ true → length (found (i + 1)) ≡ length (found i) + 1
  count_hit i e = ap length (kept_hit t (trip_at l) i e) ∙ length-append (found i) (trip_at l i ∷ [])

  pub count_miss : (i : ℕ) → t (trip_at l i) ≡ false → length (found (i + 1)) ≡ length (found i)
  count_miss i e = ap length (kept_miss t (trip_at l) i e)

  -- a turn of the list
  module _ {old out : List ℕ} {i c : ℕ} (so_far : Listed (found i) old out c) (e : t (trip_at l i) ≡ true) (i< : i < length l / entry_words)
      (room : length (keep t (rows l)) ≤ length old) where
    fits : length (found i) < length old
    fits =
        let a = kept_le t (trip_at l) (i + 1) (length l / entry_words) (omega arith) in
        let b = ap length (found_all (length l / entry_words) refl) in
        let c = count_hit i e in
        omega arith

    pub hit_room : c < length out
    hit_room = let a = fits in omega (arith, so_far.counted, listed-length so_far (omega arith))

    pub hit_listed : {v : ℕ} → v ≡ (trip_at l i).id → Listed (found (i + 1)) old (set out c v) (c + 1)
    hit_listed {v} ev =
        let id = (trip_at l i).id in
        let n : c ≡ length (ids (found i)) = so_far.counted ∙ sym (ids-length (found i)) in
        let h = fits in
        let put = over-put (ids (found i)) old id (rw (ids-length (found i)) h) in
        record {
          counted = omega (arith, so_far.counted, count_hit i e);
          written = rw (ev, so_far.written, n, kept_hit t (trip_at l) i e, ids-append) put;
        }

  pub miss_listed : (i : ℕ) {old out : List ℕ} {c : ℕ} → Listed (found i) old out c → t (trip_at l i) ≡ false → Listed (found (i + 1)) old out c
  miss_listed i so_far e = rw (kept_miss t (trip_at l) i e) so_far

  -- a turn that lists where the test passes
  module _ {old out : List ℕ} {i c : ℕ} (so_far : Listed (found i) old out c) (i< : i < length l / entry_words)
      (room : length (keep t (rows l)) ≤ length old) {b : Bool} (e : b ≡ t (trip_at l i)) where
    pub turn_room : b ≡ true → c < length out
    turn_room p = hit_room so_far (sym e ∙ p) i< room

    pub turn_listed : {v : ℕ} → v ≡ (trip_at l i).id → Listed (found (i + 1)) old (cond b (set out c v) out) (cond b (c + 1) c)
    turn_listed {v} f = go b (sym e)
      where
        go : (d : Bool) → t (trip_at l i) ≡ d → Listed (found (i + 1)) old (cond d (set out c v) out) (cond d (c + 1) c)
        go true q = hit_listed so_far q i< room f
        go false q = miss_listed i so_far q
