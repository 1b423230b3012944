-- An edit of the index x, slot after slot of one trip t: from the words of the trips of x to those of the trips ts, which differ from them only in
-- the slots of t. It is said of any edit by what a slot has to be for it (ready), and what it makes of the slots (changed).
use Rattle.std.specs.Prelude.{◌≡◌, Bool, false, cond, ◌||◌, List, [], ◌∷◌, ℕ, ◌+◌, ◌*◌, ◌^◌, ◌<◌, eqb, length, get_or, take}
use Rattle.lists.specs.Lists.{up_to}
use Rattle.ruler.specs.Ruler.{Scale}
use Rattle.trip.specs.declared.Trip.{Trip}
use Rattle.layout.specs.declared.Half.{Half}
use Rattle.layout.specs.Words.{partitions, slot, Index}
use Rattle.layout.specs.Refusals.{table_of, Fits}
use Rattle.layout.proofs.Indexes.{Indexed}
use Rattle.layout.proofs.SlotMembers.{in_slot}
use Rattle.store.specs.TripWalk.{slots_of_trip}
use Rattle.store.specs.Slots.{Holds}
use Rattle.edit.specs.HalfEdited.{HalfOf}

-- whether slot k is among some spots
unfoldable pub among : (k : ℕ) → List ℕ → Bool
among k [] = false
among k (c ∷ l) = eqb c k || among k l

-- the slots g where they are among the first j spots, and else the slots f
unfoldable pub halfway : (f g : ℕ → List Trip) → (spots : List ℕ) → (j k : ℕ) → List Trip
halfway f g cs j k = cond (among k (take j cs)) (g k) (f k)

-- the slots of a half after the first j of the trip's
abbrev pub slots_after : (s : Scale) → Half → (x : Index) → (t : Trip) → (ts : List Trip) → (j : ℕ) → List (List Trip)
slots_after s half x t ts j = up_to (halfway (slot s half (table_of s x)) (slot s half ts) (slots_of_trip s half t) j) (2 * partitions s.m)

-- the words are the half's of x, and a slot that the trip has no entry in stays
pub record Passing (s : Scale) (half : Half) (x : Index) (t : Trip) (ts : List Trip) (dir arena : List ℕ) : Type 0 where
  pub is-index : Indexed s x
  pub fits : Fits s t
  pub end_in : s.cell t.end < 2 ^ s.m
  pub words_are : HalfOf s half (table_of s x) x dir arena
  pub others : (k : ℕ) → in_slot s half k t ≡ false → slot s half ts k ≡ slot s half (table_of s x) k

module _ (ready : (dir arena : List ℕ) → List (List Trip) → Half → (slot : ℕ) → Trip → Type 0)
    (changed : Half → (slot : ℕ) → Trip → List (List Trip) → List (List Trip)) (s : Scale) (x : Index) (t : Trip) (ts : List Trip) where
  -- each slot of the trip is ready where those before it are done, and done where it is changed
  pub record Steps (half : Half) (dir arena : List ℕ) : Type 0 where
    pub passing : Passing s half x t ts dir arena
    pub readied : (D A : List ℕ) (j : ℕ) → j < length (slots_of_trip s half t) → length A ≡ length arena → Holds D A (slots_after s half x t ts j)
        → ready D A (slots_after s half x t ts j) half (get_or (slots_of_trip s half t) j 0) t
    pub turned : (j : ℕ) → j < length (slots_of_trip s half t)
        → changed half (get_or (slots_of_trip s half t) j 0) t (slots_after s half x t ts j) ≡ slots_after s half x t ts (j + 1)

  -- the edit can be made in both halves of x
  pub record Editable : Type 0 where
    pub is-index : Indexed s x
    pub steps : (half : Half) (dir arena : List ℕ) → HalfOf s half (table_of s x) x dir arena → Steps half dir arena
