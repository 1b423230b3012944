-- The trip of an id among trips.
use Rattle.std.specs.Prelude.{◌≡◌, cond, List, [], ◌∷◌, ℕ, suc, ◌<◌, ◌≤◌, eqb, length, Option, MatchOption}
use Rattle.trip.specs.declared.Trip.{Trip}

-- the place of the first trip with this id, or the number of trips where none has it
unfoldable pub place_of_id : (id : ℕ) → List Trip → ℕ
place_of_id i [] = 0
place_of_id i (t ∷ ts) = cond (eqb t.id i) 0 (suc (place_of_id i ts))

-- it is the place of the first trip with this id, or none has it
abbrev pub IsPlaceOf : (id : ℕ) → List Trip → Option ℕ → Type 0
IsPlaceOf i ts r = MatchOption r (length ts ≤ place_of_id i ts) (λ k. (k < length ts) × (k ≡ place_of_id i ts))
