-- What the tests of a table speak of.
use Rattle.std.specs.Prelude.{List, [], ◌∷◌, ℕ, zero, suc}
use Rattle.trip.specs.declared.Trip.{Trip}
use Rattle.layout.specs.Words.{trip_at, Lengths}

-- the rows before row i of a table, the last of them first
abbrev pub rows_back : (table : List ℕ) → (i : ℕ) → List Trip
rows_back table zero = []
rows_back table (suc i) = trip_at table i ∷ rows_back table i

-- the lengths of a directory and of two arenas
abbrev pub lengths : (directory originals replicas : ℕ) → Lengths
lengths d o r = record { directory = d; originals = o; replicas = r }
