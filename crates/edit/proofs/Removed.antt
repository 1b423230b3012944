-- The trip that a removal finds: it is one of the table, it has the id, and its removal is accepted.
use mathlib.Core.Path.{◌≡◌, sym, ap, subst, ◌∙◌}
use mathlib.Core.Bool.{true, false}
use mathlib.Core.List.{List, [], ◌∷◌, Memᴰ as Mem}
use Prim.Native.Nat.{ℕ, zero, suc, ◌*◌, ◌/◌, ◌≤◌, ◌<◌}
use native.Mathlib.Nat.{le_of_suc-le-suc, not-suc-le-zero}
use native.Mathlib.Omega.{arith}
use lib.ListN.{length, get_or, take}
use lib.Seq.{get_or-take}
use borrow.Author.Tests.{lt-ltb, le-ltb}
use Rattle.lists.proofs.Halving.{at_mem}
use Rattle.ruler.specs.Ruler.{Scale}
use Rattle.trip.specs.declared.Trip.{Trip}
use Rattle.layout.specs.declared.Refusal.TheVariants.{NoSuchId}
use Rattle.layout.specs.Outcomes.{Accepted, Refused, rejection}
use Rattle.layout.specs.Words.{entry_words, trip_at, rows, partitions, Index}
use Rattle.layout.specs.Refusals.{refuse, table_of, remove_outcome, check_outcome}
use Rattle.layout.specs.Calls.{after, remove_of}
use Rattle.layout.proofs.Rows.{get_or_rows}
use Rattle.store.specs.Ordered.{no_trip}
use Rattle.edit.specs.Search.{place_of_id}
use Rattle.edit.proofs.IndexRead.{Shown, has_place, place_id}
use Rattle.edit.proofs.Chained.{remove-outcome, remove_refused}

short : (n : ℕ) (l : List Trip) (i : ℕ) → i < length (take n l) → i < n
short zero l i h = absurd (not-suc-le-zero h)
short (suc n) [] i h = absurd (not-suc-le-zero h)
short (suc n) (x ∷ l) zero h = omega arith
short (suc n) (x ∷ l) (suc i) h = omega (arith, short n l i (le_of_suc-le-suc h))

-- what the code reads at a place of the originals is the trip there
table_at : (s : Scale) (x : Index) (i : ℕ) → i < length (table_of s x) → i < length x.originals / entry_words
    → trip_at x.originals i ≡ get_or (table_of s x) i no_trip
unfolding table_of
table_at s x i h k =
    let n = get_or x.directory (2 * partitions s.m) 0 in
    sym (get_or-take n (rows x.originals) i no_trip (short n (rows x.originals) i h) ∙ get_or_rows x.originals i no_trip k)

-- what a removal knows of the trip
pub record Found (s : Scale) (x : Index) (i : ℕ) (t : Trip) : Type 0 where
  pub member : Mem t (table_of s x)
  pub same : t.id ≡ i
  pub accepted : remove_outcome s x i ≡ Accepted

module _ (s : Scale) (x : Index) (i : ℕ) (good : check_outcome s x ≡ Accepted) (w : Shown s x) where
  pub found : (t : Trip) (place : ℕ) → (place < length (table_of s x)) × (place ≡ place_of_id i (table_of s x)) → t ≡ trip_at x.originals place
      → Found s x i t
  unfolding refuse
  found t place at q =
      let here : t ≡ get_or (table_of s x) place no_trip = q ∙ table_at s x place at.0 (omega (arith, w.inside, at.0)) in
      record {
        member = subst (λ (u : Trip). Mem u (table_of s x)) (sym here) (at_mem no_trip (table_of s x) place at.0);
        same = ap (λ (u : Trip). u.id) here ∙ ap (λ (k : ℕ). (get_or (table_of s x) k no_trip).id) at.1
            ∙ place_id i (table_of s x) (omega (arith, at.0, at.1));
        accepted = remove-outcome s x i true good
            (has_place i (table_of s x) ∙ lt-ltb (place_of_id i (table_of s x)) (length (table_of s x)) (omega (arith, at.0, at.1)));
      }

  -- or the id is not there
  pub not_found : length (table_of s x) ≤ place_of_id i (table_of s x) → after (Refused NoSuchId 0) x ≡ remove_of s x i
  unfolding refuse
  not_found h =
      remove_refused s x i (rejection NoSuchId 0) (sym (remove-outcome s x i false good
      (has_place i (table_of s x) ∙ le-ltb (place_of_id i (table_of s x)) (length (table_of s x)) h)))
