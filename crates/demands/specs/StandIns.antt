-- "Try these stand-ins": the small calls on which each is caught, and what an edit does that only pretends.
use Rattle.std.specs.Prelude.{◌≡◌, Bool, true, List, ℕ, take}
use Rattle.ruler.specs.Ruler.{Scale, scale_of, numbers_of}
use Rattle.trip.specs.declared.Relationship.TheVariants.{GOverlaps}
use Rattle.trip.specs.Relationships.{code_of}
use Rattle.trip.specs.Trips.{asking_of}
use Rattle.layout.specs.Words.{Index}
use Rattle.layout.specs.Refusals.{is_accepted}
use Rattle.layout.specs.Calls.{After, Asked, ask_of}

-- a ruler of two seconds with one level
abbrev pub ruler : Scale
ruler = scale_of (numbers_of 1 0)

-- the question for all trips of an index that run on day 0; and the ids that a question lists
abbrev pub all_of : Index → (list : List ℕ) → Asked
all_of x list = ask_of ruler x (asking_of (code_of GOverlaps) 0 1 0) list

abbrev pub listed : Asked → List ℕ
listed a = take a.count a.answers

abbrev pub accepted : After → Bool
accepted a = is_accepted a.outcome

-- "An edit that only says "ok"": it leaves the words as they were
abbrev pub OnlyOk : {A : Type 0} → (edit : Index → A → After) → Type 0
OnlyOk {A} edit = (x : Index) (a : A) → accepted (edit x a) ≡ true → (edit x a).words ≡ x

-- "one that is right the first time and pretends later": it leaves the words as they were where it has been before
abbrev pub RightOnce : {A : Type 0} → (edit : Index → A → After) → Type 0
RightOnce {A} edit = (x : Index) (a b : A) → accepted (edit (edit x a).words b) ≡ true → (edit (edit x a).words b).words ≡ (edit x a).words
