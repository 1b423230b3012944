-- A half of the index as a list of slots, each a list of trips, and the words that hold it.
use Rattle.std.specs.Prelude.{◌≡◌, List, [], ◌∷◌, ◌++◌, ℕ, suc, ◌+◌, ◌*◌, ◌≤◌, ◌<◌, length, get_or, set, take, drop, replicate}
use Rattle.trip.specs.declared.Trip.{Trip}
use Rattle.layout.specs.Words.{entry_words, words}
use Rattle.store.specs.Passes.{most_entries}

-- all entries, slot after slot
abbrev pub flat : List (List Trip) → List Trip
flat [] = []
flat (l ∷ ls) = l ++ flat ls

-- the directory: for each slot the number of entries before it, counted from n on, and at the end their number
abbrev pub starts_from : ℕ → List (List Trip) → List ℕ
starts_from n [] = n ∷ []
starts_from n (l ∷ ls) = n ∷ starts_from (n + length l) ls

-- a trip put in at a place of a list, and of the list of a slot
abbrev pub inserted : (pos : ℕ) → Trip → List Trip → List Trip
inserted p t l = take p l ++ (t ∷ drop p l)

abbrev pub inserted_in : (slot pos : ℕ) → Trip → List (List Trip) → List (List Trip)
inserted_in s p t ls = set ls s (inserted p t (get_or ls s []))

-- the trip at a place taken out, of a list and of the list of a slot
abbrev pub removed : (pos : ℕ) → List Trip → List Trip
removed p l = take p l ++ drop (suc p) l

abbrev pub removed_in : (slot pos : ℕ) → List (List Trip) → List (List Trip)
removed_in s p ls = set ls s (removed p (get_or ls s []))

-- the words of a directory half and of its arena hold the slots ls: zeros stand after the last entry
pub record Holds (dir arena : List ℕ) (ls : List (List Trip)) : Type 0 where
  pub counts : dir ≡ starts_from 0 ls
  pub free : ℕ
  pub entries : arena ≡ words (flat ls) ++ replicate free 0

-- they hold slots with room for one more entry, and there is this place in this slot
pub record Room (dir arena : List ℕ) (slots : List (List Trip)) (slot pos : ℕ) : Type 0 where
  pub holds : Holds dir arena slots
  pub slot_in : slot < length slots
  pub pos_in : pos ≤ length (get_or slots slot [])
  pub room : entry_words * length (flat slots) + entry_words ≤ length arena
  pub few : length (flat slots) < most_entries

-- they hold slots with an entry at this place of this slot
pub record There (dir arena : List ℕ) (slots : List (List Trip)) (slot pos : ℕ) : Type 0 where
  pub holds : Holds dir arena slots
  pub slot_in : slot < length slots
  pub pos_in : pos < length (get_or slots slot [])
