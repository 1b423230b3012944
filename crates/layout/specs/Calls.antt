-- Document 01, what each call returns and leaves, accepted or refused. "A refusal returns its number and one detail (0 unless named),
-- and every buffer stays as found; any count that a refused call gives is 0. A refused run shows an empty part; a refused census is
-- all zeros."
use Rattle.std.specs.Prelude.{not, List, [], ◌∷◌, ℕ, suc, eqb, length, replicate, Err, Ok}
use Rattle.lists.specs.Lists.{keep, over}
use Rattle.ruler.specs.Ruler.{Scale, deepest}
use Rattle.trip.specs.declared.Trip.{Trip}
use Rattle.trip.specs.declared.Asking.{Asking}
use Rattle.layout.specs.Outcomes.{Outcome}
use Rattle.layout.specs.Words.{rows, Index, lengths_of, layout}
use Rattle.layout.specs.Answers.{answer_to, last_subdivision, subdivision_numbered, census, run_words, run_from}
use Rattle.layout.specs.Refusals.{table_of, build_outcome, add_outcome, remove_outcome, ask_outcome, run_outcome, check_outcome}

module _ {A : Type 0} where
  -- what an accepted call gives, or what a refused one does
  unfoldable pub if_accepted : Outcome → (given else : A) → A
  if_accepted (Ok _) given else = given
  if_accepted (Err r) given else = else

-- the words of an index as lists
abbrev pub index : (directory originals replicas : List ℕ) → Index
index d o r = record { directory = d; originals = o; replicas = r }

-- the outcome of a build, an addition or a removal, and the words of the index after it
pub record After : Type 0 where
  pub outcome : Outcome
  pub words : Index

abbrev pub after : Outcome → Index → After
after o x = record { outcome = o; words = x }

-- "every buffer stays as found" where the outcome is a refusal
unfoldable pub leaving : (outcome : Outcome) → (found made : Index) → After
leaving o found made = after o (if_accepted o made found)

-- build: the layout of the rows
unfoldable pub build_of : Scale → (table : List ℕ) → Index → After
build_of s table x = leaving (build_outcome s table (lengths_of x)) x (layout s (rows table) (lengths_of x))

-- an addition: "every word is what a build for those trips would write"
unfoldable pub add_of : Scale → Index → Trip → After
add_of s x t = leaving (add_outcome s x t) x (layout s (t ∷ table_of s x) (lengths_of x))

-- a removal: the trips of another id
unfoldable pub without : (id : ℕ) → List Trip → List Trip
without i ts = keep (λ (t : Trip). not (eqb t.id i)) ts

unfoldable pub remove_of : Scale → Index → (id : ℕ) → After
remove_of s x i = leaving (remove_outcome s x i) x (layout s (without i (table_of s x)) (lengths_of x))

-- a question: "The answer is the count and, in the answer list's first words, the ids in ascending order; later words stay": the ids `over` the list
pub record Asked : Type 0 where
  pub outcome : Outcome
  pub count : ℕ
  pub answers : List ℕ

abbrev pub asked : Outcome → (count : ℕ) → (answers : List ℕ) → Asked
asked o n l = record { outcome = o; count = n; answers = l }

unfoldable pub ask_of : Scale → Index → Asking → (answers : List ℕ) → Asked
ask_of s x q list =
    let o = ask_outcome s x q (length list) in
    let ids = answer_to q (table_of s x) in
    asked o (if_accepted o (length ids) 0) (if_accepted o (over ids list) list)

-- the census: eleven rows of four counts
unfoldable pub no_census : List (List ℕ)
no_census = replicate (suc deepest) (replicate (suc last_subdivision) 0)

unfoldable pub census_of : Scale → Index → List (List ℕ)
census_of s x = if_accepted (check_outcome s x) (census s (table_of s x)) no_census

-- a run: the words shown, and the word of the arena at which they begin
unfoldable pub run_of : Scale → Index → (L i subdivision : ℕ) → List ℕ
run_of s x L i d = if_accepted (run_outcome s x L i d) (run_words s (table_of s x) L i (subdivision_numbered d)) []

unfoldable pub run_from_of : Scale → Index → (L i subdivision : ℕ) → ℕ
run_from_of s x L i d = if_accepted (run_outcome s x L i d) (run_from s (table_of s x) L i (subdivision_numbered d)) 0
