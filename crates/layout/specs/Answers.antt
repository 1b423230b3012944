-- Document 01, "Relationships", what a question, the census and a run of a table give, as definitions.
use Rattle.std.specs.Prelude.{Bool, true, false, cond, ◌&&◌, List, [], ◌∷◌, map, ℕ, suc, ◌*◌, leb, length, get_or, None, Option, Some}
use Rattle.lists.specs.Lists.{keep, ascending, joined, up_to}
use Rattle.ruler.specs.Ruler.{Scale, deepest}
use Rattle.trip.specs.declared.Trip.{Trip}
use Rattle.trip.specs.declared.Asking.{Asking}
use Rattle.trip.specs.declared.Question.{Question}
use Rattle.trip.specs.declared.Relationship.{Relationship}
use Rattle.trip.specs.Relationships.{named, related}
use Rattle.trip.specs.Trips.{runs_on}
use Rattle.layout.specs.declared.Half.{Half}
use Rattle.layout.specs.declared.Half.TheVariants.{Originals, Replicas}
use Rattle.layout.specs.declared.Subdivision.{Subdivision}
use Rattle.layout.specs.declared.Subdivision.TheVariants.{OIn, OAft, RIn, RAft}
use Rattle.layout.specs.Stored.{partitions_at}
use Rattle.layout.specs.Words.{entry_words, slot_trips, slot_number, entries_before, words}

-- "A question is a window together with one named relationship", and T-07: "each question a day". Whether a trip matches it ("satisfy it and run that
-- day"), the trips of a table that do, and "the ids in ascending order"
abbrev pub matching : Question → Trip → Bool
matching q t = related q.relationship q.window t && runs_on q.day t

unfoldable pub matches : Question → List Trip → List Trip
matches q ts = keep (matching q) ts

unfoldable pub answer : Question → List Trip → List ℕ
answer q ts = ascending (map (λ (t : Trip). t.id) (matches q ts))

-- a question as it is put, judged by what its code names; a code that names nothing lists nothing
abbrev pub question : Relationship → Asking → Question
question r q = record { window = q.window; relationship = r; day = q.day }

unfoldable pub answer_by : Option Relationship → Asking → List Trip → List ℕ
answer_by (Some r) q ts = answer (question r q) ts
answer_by None q ts = []

unfoldable pub answer_to : Asking → List Trip → List ℕ
answer_to q ts = answer_by (named q.code) q ts

-- "O_in, O_aft, R_in, R_aft (subdivisions 0 to 3)"
unfoldable pub subdivision_number : Subdivision → ℕ
subdivision_number OIn = 0
subdivision_number OAft = 1
subdivision_number RIn = 2
subdivision_number RAft = 3

abbrev pub last_subdivision : ℕ
last_subdivision = 3

-- the subdivision with this number (the law `numbered_subdivision` ties it to `subdivision_number`)
unfoldable pub subdivision_numbered : ℕ → Subdivision
subdivision_numbered k = get_or (OIn ∷ OAft ∷ RIn ∷ []) k RAft

-- "The census gives eleven rows of four counts, one row per level in the order O_in, O_aft, R_in, R_aft (subdivisions 0 to 3);
-- rows above m are zero."
unfoldable pub level_count : Scale → List Trip → (L : ℕ) → Subdivision → ℕ
level_count s ts L d = cond (leb L s.m) (length (joined (λ i. slot_trips s d L i ts) (partitions_at L))) 0

unfoldable pub level_row : Scale → List Trip → (L : ℕ) → List ℕ
level_row s ts L = level_count s ts L OIn ∷ level_count s ts L OAft ∷ level_count s ts L RIn ∷ level_count s ts L RAft ∷ []

unfoldable pub census : Scale → List Trip → List (List ℕ)
census s ts = up_to (level_row s ts) (suc deepest)

-- "The run of one subdivision is shown as part of the originals or of the replicas arena itself": its words, and the word of the arena
-- at which they begin
unfoldable pub half_of : Subdivision → Half
half_of OIn = Originals
half_of OAft = Originals
half_of RIn = Replicas
half_of RAft = Replicas

unfoldable pub is_aft : Subdivision → Bool
is_aft OIn = false
is_aft OAft = true
is_aft RIn = false
is_aft RAft = true

unfoldable pub run_words : Scale → List Trip → (L i : ℕ) → Subdivision → List ℕ
run_words s ts L i d = words (slot_trips s d L i ts)

unfoldable pub run_from : Scale → List Trip → (L i : ℕ) → Subdivision → ℕ
run_from s ts L i d = entry_words * length (entries_before s (half_of d) ts (slot_number L i (is_aft d)))
