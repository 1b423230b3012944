-- "any two results allowed by it are proved the same": a contract says that a record made of the result and of every lent word equals what the input
-- says. What it is that two such results are the same, part by part, for each form of that record.
use Rattle.std.specs.Prelude.{◌≡◌, true, List, [], ℕ, Result}
use Rattle.layout.specs.declared.Rejection.{Rejection}
use Rattle.layout.specs.Outcomes.{Outcome}
use Rattle.layout.specs.Words.{Index}
use Rattle.layout.specs.Calls.{After, after, Asked, asked}
use Rattle.ask.specs.Told.{asked_by}
use Rattle.export.specs.declared.Said.{Said}
use Rattle.export.specs.declared.Told.{Told}
use Rattle.export.specs.Said.{Left, left, Heard, told, Counted, counted}
use Rattle.dialogue.specs.declared.Turned.{Turned}
use Rattle.feeding.specs.declared.Fed.{Fed}
use Rattle.feeding.specs.declared.Standing.{Standing}
use Rattle.dialogue.specs.Session.{state, start, Turn, Done}
use Rattle.feeding.specs.Feeding as feeding

-- a result alone
abbrev pub One : {A : Type 0} → (said : A) → Type 0
One {A} said = (one other : A) → one ≡ said → other ≡ said → one ≡ other

-- an outcome, with the words of the index after it
abbrev pub OneAfter : After → Type 0
OneAfter said = (o p : Outcome) (y z : Index) → after o y ≡ said → after p z ≡ said → (o ≡ p) × (y ≡ z)

-- an outcome and a count, with the answer list after it
abbrev pub OneAsked : Asked → Type 0
OneAsked said = (o p : Outcome) (k j : ℕ) (l m : List ℕ) → asked o k l ≡ said → asked p j m ≡ said → (o ≡ p) × (k ≡ j) × (l ≡ m)

-- the same of an answer as `ask` gives it, a count or a refusal
abbrev pub OneAnswer : Asked → Type 0
OneAnswer said = (a b : Result ℕ Rejection) (l m : List ℕ) → asked_by a l ≡ said → asked_by b m ≡ said → (a ≡ b) × (l ≡ m)

-- the same of the C functions, and the counts of a census that one writes
abbrev pub OneLeft : Left → Type 0
OneLeft said = (r q : Said) (y z : Index) → left r y ≡ said → left q z ≡ said → (r ≡ q) × (y ≡ z)

abbrev pub OneHeard : Heard → Type 0
OneHeard said = (t u : Told) (l m : List ℕ) → told t l ≡ said → told u m ≡ said → (t ≡ u) × (l ≡ m)

abbrev pub OneCounted : Counted → Type 0
OneCounted said = (r q : Said) (c d : List (List ℕ)) → counted r c ≡ said → counted q d ≡ said → (r ≡ q) × (c ≡ d)

-- a turn of the session, with the words of the index, the answer list and the reply after it
abbrev pub OneTurn : Turn → (reply : List ℕ) → Type 0
OneTurn said reply =
    (r q : Turned) (y z : Index) (l m : List ℕ) (bytes others : List ℕ) → Done said r y l reply bytes → Done said q z m reply others
    → (r ≡ q) × (y ≡ z) × (l ≡ m) × (bytes ≡ others)

-- some of the session's input, with the same after it
abbrev pub OneFeed : feeding.Feed → (out : List ℕ) → Type 0
OneFeed said out =
    (r q : Fed) (y z : Index) (l m : List ℕ) (bytes others : List ℕ) → feeding.Left said r y l out bytes → feeding.Left said q z m out others
    → (r ≡ q) × (y ≡ z) × (l ≡ m) × (bytes ≡ others)

-- what the session holds before the first byte of its input
abbrev pub Begun : Standing → Type 0
Begun r = feeding.Sound r × ((x : Index) (l : List ℕ) → feeding.held_by r x l ≡ feeding.held (state start.desk x l) [] true)
