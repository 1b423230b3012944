-- "any two results allowed by it are proved the same": one general law, and one line for each public function of the index (docs/PUBLIC.md). Those
-- of the programs and of C are in SettledPrograms.antt.
use mathlib.Core.Path.{sym, ap, ◌∙◌}
use mathlib.Core.List.{List}
use Prim.Native.Nat.{ℕ}
use Rattle.std.specs.Prelude.{◌≡◌, Result, Ok, Err}
use Rattle.lists.specs.Lists.{ascending}
use Rattle.ruler.specs.declared.Time.{Time}
use Rattle.ruler.specs.declared.Numbers.{Numbers}
use Rattle.ruler.specs.Ruler.{time_at, before, same_time, no_later, scale_of, bottom_of}
use Rattle.ruler.specs.Made.{judge}
use Rattle.trip.specs.declared.Trip.{Trip}
use Rattle.trip.specs.declared.Window.{Window}
use Rattle.trip.specs.declared.Asking.{Asking}
use Rattle.trip.specs.declared.Relationship.{Relationship}
use Rattle.trip.specs.Relationships.{named, related}
use Rattle.trip.specs.Trips.{trip_of, same_trip, runs_on_any, never_runs, window_of, asking_of}
use Rattle.layout.specs.declared.Refusal.{Refusal}
use Rattle.layout.specs.declared.Rejection.{Rejection}
use Rattle.layout.specs.Outcomes.{Outcome}
use Rattle.layout.specs.Words.{Index}
use Rattle.layout.specs.Refusals.{refusal_number, number_of, detail_of, check_outcome, run_outcome}
use Rattle.layout.specs.Calls.{After, after, Asked, asked, build_of, add_of, remove_of, ask_of, census_of, run_of, run_from_of}
use Rattle.verify.specs.Opening.{open_of}
use Rattle.view.specs.Views.{place_of}
use Rattle.ask.specs.Told.{outcome_told, count_told, asked_by}
use Rattle.demands.specs.Settled.{One, OneAfter, OneAsked, OneAnswer}

-- the general law: two things that both equal what the input says are one
pub settled : {A : Type 0} (said : A) → One said
settled said one other e f = e ∙ sym f

-- and so are their parts
one_after : (said : After) → OneAfter said
one_after said o p y z e f =
    let same = settled said (after o y) (after p z) e f in
    (ap (λ (a : After). a.outcome) same, ap (λ (a : After). a.words) same)

one_asked : (said : Asked) → OneAsked said
one_asked said o p k j l m e f =
    let same = settled said (asked o k l) (asked p j m) e f in
    (ap (λ (a : Asked). a.outcome) same, ap (λ (a : Asked). a.count) same, ap (λ (a : Asked). a.answers) same)

-- an answer of `ask` is its outcome and its count
one_told : (a b : Result ℕ Rejection) → outcome_told a ≡ outcome_told b → count_told a ≡ count_told b → a ≡ b
one_told (Ok k) (Ok j) e f = ap Ok f
one_told (Ok k) (Err r) e f = absurd cc
one_told (Err r) (Ok k) e f = absurd cc
one_told (Err r) (Err w) e f = let same : r ≡ w = cc in ap Err same

one_answer : (said : Asked) → OneAnswer said
one_answer said a b l m e f =
    let same = settled said (asked_by a l) (asked_by b m) e f in
    (one_told a b (ap (λ (x : Asked). x.outcome) same) (ap (λ (x : Asked). x.count) same), ap (λ (x : Asked). x.answers) same)

-- ---- what the entries take and give: times, `Ruler::new`, trips, windows, questions, relationships, the numbers of an outcome, and the sort of ids where they stand

pub time_settled : (seconds : ℕ) → One (time_at seconds)
time_settled seconds = settled (time_at seconds)

module _ (s t : Time) where
  pub before_settled : One (before s t)
  before_settled = settled (before s t)

  pub same_settled : One (same_time s t)
  same_settled = settled (same_time s t)

  pub no_later_settled : One (no_later s t)
  no_later_settled = settled (no_later s t)

pub ruler_settled : (n : Numbers) → One (judge n)
ruler_settled n = settled (judge n)

pub bottom_settled : (n : Numbers) → One (bottom_of n)
bottom_settled n = settled (bottom_of n)

module _ (start end : ℕ) where
  pub trip_settled : (id days : ℕ) → One (trip_of id start end days)
  trip_settled id days = settled (trip_of id start end days)

  pub window_settled : One (window_of start end)
  window_settled = settled (window_of start end)

  pub asking_settled : (code day : ℕ) → One (asking_of code start end day)
  asking_settled code day = settled (asking_of code start end day)

pub same_trip_settled : (t u : Trip) → One (same_trip t u)
same_trip_settled t u = settled (same_trip t u)

pub runs_settled : (days : ℕ) (t : Trip) → One (runs_on_any days t)
runs_settled days t = settled (runs_on_any days t)

pub never_settled : (t : Trip) → One (never_runs t)
never_settled t = settled (never_runs t)

pub relationship_settled : (code : ℕ) → One (named code)
relationship_settled code = settled (named code)

pub stands_settled : (r : Relationship) (q : Window) (t : Trip) → One (related r q t)
stands_settled r q t = settled (related r q t)

pub refusal_number_settled : (why : Refusal) → One (refusal_number why)
refusal_number_settled why = settled (refusal_number why)

pub number_settled : (o : Outcome) → One (number_of o)
number_settled o = settled (number_of o)

pub detail_settled : (o : Outcome) → One (detail_of o)
detail_settled o = settled (detail_of o)

pub sort_settled : (ids : List ℕ) → One (ascending ids)
sort_settled ids = settled (ascending ids)

-- ---- the entries of the index, on every ruler and on any words

module _ (n : Numbers) (x : Index) where
  pub build_settled : (table : List ℕ) → OneAfter (build_of (scale_of n) table x)
  build_settled table = one_after (build_of (scale_of n) table x)

  pub add_settled : (t : Trip) → OneAfter (add_of (scale_of n) x t)
  add_settled t = one_after (add_of (scale_of n) x t)

  pub remove_settled : (i : ℕ) → OneAfter (remove_of (scale_of n) x i)
  remove_settled i = one_after (remove_of (scale_of n) x i)

  pub ask_settled : (q : Asking) (list : List ℕ) → OneAsked (ask_of (scale_of n) x q list)
  ask_settled q list = one_asked (ask_of (scale_of n) x q list)

  -- and the answer itself, which tells its outcome and its count
  pub ask-answer_settled : (q : Asking) (list : List ℕ) → OneAnswer (ask_of (scale_of n) x q list)
  ask-answer_settled q list = one_answer (ask_of (scale_of n) x q list)

  -- the check, and the outcome of the census
  pub open_settled : One (open_of n x)
  open_settled = settled (open_of n x)

  pub check_settled : One (check_outcome (scale_of n) x)
  check_settled = settled (check_outcome (scale_of n) x)

  pub census_settled : One (census_of (scale_of n) x)
  census_settled = settled (census_of (scale_of n) x)

  module _ (L i d : ℕ) where
    pub run_settled : One (run_of (scale_of n) x L i d)
    run_settled = settled (run_of (scale_of n) x L i d)

    pub run-outcome_settled : One (run_outcome (scale_of n) x L i d)
    run-outcome_settled = settled (run_outcome (scale_of n) x L i d)

    pub run-from_settled : One (run_from_of (scale_of n) x L i d)
    run-from_settled = settled (run_from_of (scale_of n) x L i d)

    pub run_place_settled : One (place_of (scale_of n) x L i d)
    run_place_settled = settled (place_of (scale_of n) x L i d)
