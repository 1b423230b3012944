-- No id twice, as a test on the ids in ascending order; and how it is found in a small room, class by class.
use Rattle.std.specs.Prelude.{◌≡◌, Bool, true, false, not, ◌&&◌, ◌||◌, List, [], ◌∷◌, ◌++◌, ℕ, ◌*◌, ◌/◌, ◌%◌, ◌≤◌, ◌<◌, ltb, eqb, length, get_or, take, drop}
use Rattle.lists.specs.Lists.{ascending, keep, up_to}
use Rattle.trip.specs.declared.Trip.{Trip}
use Rattle.store.specs.Entries.{word_end, ids}

-- each word is above the one before it, the first above x
unfoldable pub climbs_from : (x : ℕ) → List ℕ → Bool
climbs_from x [] = true
climbs_from x (y ∷ l) = ltb x y && climbs_from y l

-- each word is above the one before it
unfoldable pub climbs : List ℕ → Bool
climbs [] = true
climbs (x ∷ l) = climbs_from x l

-- what a closure answers at each place below n is the key there
abbrev pub TellsBelow : (n : ℕ) → (answers : ℕ → ℕ → Type 0) → (keys : ℕ → ℕ) → Type 0
TellsBelow n answers keys = (k x : ℕ) → k < n → answers k x → x ≡ keys k

-- the first word of each step, of as many whole steps as the words have
unfoldable pub every_step : (step : ℕ) → List ℕ → List ℕ
every_step step l = up_to (λ (k : ℕ). get_or l (step * k) 0) (length l / step)

-- no number stands twice: in ascending order they climb
abbrev pub differ : List ℕ → Bool
differ l = climbs (ascending l)

-- no id stands twice
unfoldable pub ids_differ : List Trip → Bool
ids_differ ts = differ (ids ts)

-- ---- class by class

-- how many ids are told apart at once
abbrev pub room_length : ℕ
room_length = 512

-- what ids are multiplied by: an odd number, about 0.618 of all words
abbrev pub mixer : ℕ
mixer = 2654435769

-- The low word of a product, which spreads ids that come in even steps over all words, times so many classes.
unfoldable pub spread : (classes id : ℕ) → ℕ
spread classes id = id * mixer % word_end * classes

-- The class of an id, one of so many: where among all words it was spread to.
unfoldable pub class_of : (classes id : ℕ) → ℕ
class_of classes id = spread classes id / word_end

abbrev pub in_class : (classes class id : ℕ) → Bool
in_class classes class id = eqb (class_of classes id) class

-- the ids of a class, from row k on
abbrev pub of_class : (classes class : ℕ) → List Trip → (k : ℕ) → List ℕ
of_class classes class ts k = keep (in_class classes class) (drop k (ids ts))

-- The first words of a room were gathered from one row up to the next: they stand before what is left there. The room is full where rows
-- are left, and a row was passed where there was one.
pub record Gathers (classes class : ℕ) (ts : List Trip) (from : ℕ) (room : List ℕ) (found next : ℕ) : Type 0 where
  pub there : of_class classes class ts from ≡ take found room ++ of_class classes class ts next
  pub fits : found ≤ length room
  pub full : next < length ts → found ≡ length room
  pub onward : from < length ts → from < next

-- x is one of a list
unfoldable pub among : ℕ → List ℕ → Bool
among x [] = false
among x (y ∷ l) = eqb y x || among x l

-- none of the second list is in the first
unfoldable pub apart : (l k : List ℕ) → Bool
apart l [] = true
apart l (x ∷ k) = not (among x l) && apart l k
