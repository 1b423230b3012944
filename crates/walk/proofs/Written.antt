-- Ids written to the front of a list, one more after them, and none.
use mathlib.Core.Path.{◌≡◌, refl, sym, ap, ◌∙◌}
use mathlib.Core.List.{List, [], ◌∷◌, ◌++◌, map-append, append_assoc}
use Prim.Native.Nat.{ℕ, suc, ◌≤◌, ◌<◌}
use native.Mathlib.Omega.{arith}
use lib.ListN.{length, drop, get_or, set, length-append, length-map}
use lib.Seq.{drop-cons, set_at}
use Rattle.trip.specs.declared.Trip.{Trip}
use Rattle.lists.specs.Lists.{over}
use Rattle.layout.proofs.SortedLists.{id_of}
use Rattle.store.specs.Entries.{ids}
use Rattle.walk.specs.Part.{Listed}
use Rattle.walk.specs.Listings.{over_none, over-length}

pub ids-append : (ts us : List Trip) → ids (ts ++ us) ≡ ids ts ++ ids us
ids-append ts us = map-append id_of ts us

pub ids-length : (ts : List Trip) → length (ids ts) ≡ length ts
ids-length ts = length-map ts id_of

-- ---- words over a list

-- one word more
pub over-put : (new old : List ℕ) (v : ℕ) → length new < length old → set (over new old) (length new) v ≡ over (new ++ (v ∷ [])) old
unfolding over
over-put new old v h =
    let n = length new in
    let one : length (new ++ (v ∷ [])) ≡ suc n = rw length-append (omega arith) in
    rw (drop-cons old n 0 h, set_at new (get_or old n 0) (drop (suc n) old) v n refl, one, append_assoc)

-- ---- ids listed

pub listed-length : {ts : List Trip} {old mid : List ℕ} {n : ℕ} → Listed ts old mid n → length ts ≤ length old → length mid ≡ length old
listed-length {ts} {old} one h = ap length one.written ∙ over-length (ids ts) old (rw (ids-length ts) h)

pub listed-none : (old : List ℕ) → Listed [] old old 0
listed-none old = record { counted = refl; written = sym (over_none old) }
