-- What the readings of an index answer together: the rows of words that were opened, and where a run stands.
use Rattle.layout.specs.declared.Refusal.{Refusal}
use Rattle.std.specs.Prelude.{◌≡◌, List, ℕ, ◌+◌, ◌-◌, ◌*◌, length, get_or, Err, Ok, Result}
use Rattle.ruler.specs.declared.Ruler.{Ruler}
use Rattle.ruler.specs.Ruler.{Scale}
use Rattle.ruler.specs.Made.{scale}
use Rattle.layout.specs.declared.Rejection.{Rejection}
use Rattle.layout.specs.Outcomes.{given_if}
use Rattle.layout.specs.Words.{entry_words, Index}
use Rattle.layout.specs.Refusals.{run_outcome}
use Rattle.layout.specs.Calls.{no_census, run_of, run_from_of}
use Rattle.view.specs.declared.Place.{Place}
use Rattle.view.specs.Directory.{rows_of, Halves}

-- the counts of a directory whose index was opened; zeros where it was refused
unfoldable pub rows_opened : Result Ruler Refusal → (directory : List ℕ) → List (List ℕ)
rows_opened (Ok ruler) dir = rows_of dir (scale ruler).m
rows_opened (Err why) dir = no_census

-- what that asks of the directory
pub record Readable (o : Result Ruler Refusal) (directory : List ℕ) : Type 0 where
  pub halves : (r : Ruler) → o ≡ Ok r → Halves (scale r).m directory

-- where a run stands: the word of its arena at which it begins, and its words
abbrev pub place_at : (from length : ℕ) → Place
place_at from length = record { from = from; length = length }

-- that of what a call shows: of no words at all where it is refused
abbrev pub place_shown : Scale → Index → (L i subdivision : ℕ) → Place
place_shown s x L i d = place_at (run_from_of s x L i d) (length (run_of s x L i d))

unfoldable pub place_of : Scale → Index → (L i subdivision : ℕ) → Result Place Rejection
place_of s x L i d = given_if (run_outcome s x L i d) (place_shown s x L i d)

-- between the entries before a slot and those before the next
unfoldable pub slot_place : (directory : List ℕ) → (at : ℕ) → Place
slot_place dir at = place_at (entry_words * get_or dir at 0) (entry_words * get_or dir (at + 1) 0 - entry_words * get_or dir at 0)
