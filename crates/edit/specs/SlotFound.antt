-- One slot of a half, as an edit finds it.
use mathlib.Core.List.{List, [], Memᴰ as Mem}
use Rattle.std.specs.Prelude.{ℕ, ◌+◌, ◌*◌, ◌≤◌, ◌<◌, length, get_or}
use Rattle.lists.specs.Sifting.{InOrder}
use Rattle.trip.specs.declared.Trip.{Trip}
use Rattle.layout.specs.declared.Half.{Half}
use Rattle.layout.specs.Words.{entry_words, order, subdivision_at}
use Rattle.store.specs.Passes.{most_entries}
use Rattle.store.specs.Slots.{flat, Holds}
use Rattle.store.specs.Ordered.{preceding, no_trip}

-- the place of a trip in a slot's order
abbrev pub place_in : Half → (slot : ℕ) → Trip → List (List Trip) → ℕ
place_in h k t slots = preceding (subdivision_at h k) t (get_or slots k [])

-- the words hold slots of which this one is in order
pub record Orderly (dir arena : List ℕ) (slots : List (List Trip)) (half : Half) (slot : ℕ) : Type 0 where
  pub holds : Holds dir arena slots
  pub slot_in : slot < length slots
  pub in_order : InOrder (order (subdivision_at half slot)) no_trip (get_or slots slot []) (length (get_or slots slot []))

-- and there is room for one more entry
pub record Vacant (dir arena : List ℕ) (slots : List (List Trip)) (half : Half) (slot : ℕ) : Type 0 where
  pub orderly : Orderly dir arena slots half slot
  pub room : entry_words * length (flat slots) + entry_words ≤ length arena
  pub few : length (flat slots) < most_entries

-- or the trip has an entry in it
pub record Present (dir arena : List ℕ) (slots : List (List Trip)) (half : Half) (slot : ℕ) (t : Trip) : Type 0 where
  pub orderly : Orderly dir arena slots half slot
  pub here : Mem t (get_or slots slot [])
