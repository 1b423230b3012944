-- A call and its answer as numbers, in the order in which the test port writes them; and the definitions' answer to a call.
use Rattle.std.specs.Prelude.{List, [], ◌∷◌, ◌++◌, ℕ, length}
use Rattle.ruler.specs.declared.Numbers.{Numbers}
use Rattle.ruler.specs.Ruler.{scale_of}
use Rattle.layout.specs.Outcomes.{Outcome}
use Rattle.layout.specs.Refusals.{number_of, detail_of, check_outcome, run_outcome}
use Rattle.layout.specs.Calls.{index, After, Asked, build_of, add_of, remove_of, ask_of, census_of, run_of}
use Rattle.trip.specs.Trips.{trip_of, asking_of}

pub data Call : Type 0 where
  build : (n : Numbers) → (table directory originals replicas : List ℕ) → Call
  check : (n : Numbers) → (directory originals replicas : List ℕ) → Call
  add : (n : Numbers) → (id start end days : ℕ) → (directory originals replicas : List ℕ) → Call
  remove : (n : Numbers) → (id : ℕ) → (directory originals replicas : List ℕ) → Call
  ask : (n : Numbers) → (code start end day : ℕ) → (directory originals replicas answers : List ℕ) → Call
  run : (n : Numbers) → (level partition subdivision : ℕ) → (directory originals replicas : List ℕ) → Call
  census : (n : Numbers) → (directory originals replicas : List ℕ) → Call

pub record Case : Type 0 where
  pub call : Call
  pub answer : List ℕ

abbrev pub case : Call → List ℕ → Case
case c l = record { call = c; answer = l }

-- a buffer: its length and its words
unfoldable pub buffer : List ℕ → List ℕ
buffer l = length l ∷ l

unfoldable pub outcome : Outcome → List ℕ
outcome o = number_of o ∷ detail_of o ∷ []

unfoldable pub after : After → List ℕ
after a = outcome a.outcome ++ (buffer a.words.directory ++ (buffer a.words.originals ++ buffer a.words.replicas))

unfoldable pub asked : Asked → List ℕ
asked a = outcome a.outcome ++ (a.count ∷ buffer a.answers)

unfoldable pub flat : List (List ℕ) → List ℕ
flat [] = []
flat (l ∷ ls) = l ++ flat ls

-- what the definitions answer
unfoldable pub answer_of : Call → List ℕ
answer_of (build n t d o r) = after (build_of (scale_of n) t (index d o r))
answer_of (check n d o r) = outcome (check_outcome (scale_of n) (index d o r))
answer_of (add n i s e w d o r) = after (add_of (scale_of n) (index d o r) (trip_of i s e w))
answer_of (remove n i d o r) = after (remove_of (scale_of n) (index d o r) i)
answer_of (ask n c s e y d o r a) = asked (ask_of (scale_of n) (index d o r) (asking_of c s e y) a)
answer_of (run n L i s d o r) = outcome (run_outcome (scale_of n) (index d o r) L i s) ++ buffer (run_of (scale_of n) (index d o r) L i s)
answer_of (census n d o r) = outcome (check_outcome (scale_of n) (index d o r)) ++ flat (census_of (scale_of n) (index d o r))
