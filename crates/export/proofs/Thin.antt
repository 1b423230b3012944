-- What an entry answers, in the numbers that the C functions hand on.
use Rattle.std.proofs.Common.{Err, Ok, Result}
use mathlib.Core.Path.{◌≡◌, refl, ap, ◌∙◌}
use mathlib.Core.List.{List}
use Prim.Native.Nat.{ℕ, ◌^◌, ◌<◌}
use native.Mathlib.Omega.{arith}
use Rattle.ruler.specs.declared.Numbers.{Numbers}
use Rattle.ruler.specs.Ruler.{scale_of}
use Rattle.layout.specs.declared.Rejection.{Rejection}
use Rattle.layout.specs.Outcomes.{Outcome}
use Rattle.layout.specs.Words.{Index}
use Rattle.layout.specs.Refusals.{refusal_number, number_of, detail_of}
use Rattle.layout.specs.Calls.{After, after, Asked, if_accepted, run_of, run_from_of}
use Rattle.ask.specs.Told.{outcome_told, count_told, asked_by}
use Rattle.view.specs.declared.Place.{Place}
use Rattle.view.specs.Views.{place_of}
use Rattle.view.proofs.ViewEntries.{run_ends, given, accepted_by, refused_by}
use Rattle.export.specs.declared.Said.{Said}
use Rattle.export.specs.Said.{said_of, left, left_of, told, told_of, counted, shown, arena_of, run_said}

-- a call that leaves words
pub left_so : {r : Said} {o : Outcome} {x : Index} {a : After} → r ≡ said_of o → after o x ≡ a → left r x ≡ left_of a
left_so {x = x} e f = ap (λ (s : Said). left s x) e ∙ ap left_of f

-- a question
pub told_so : (o : Result ℕ Rejection) {l : List ℕ} {a : Asked} → asked_by o l ≡ a
    → told (record { number = number_of (outcome_told o); detail = detail_of (outcome_told o); count = count_told o }) l ≡ told_of a
told_so o f = ap told_of f

-- a census
pub counted_so : {r q : Said} {c d : List (List ℕ)} → r ≡ q → c ≡ d → counted r c ≡ counted q d
counted_so e f = rw (e, f) refl

-- a run
module _ (n : Numbers) (L i d : ℕ) (x : Index) where
  -- its words are few, so that 32 bits tell where it begins and how long it is
  pub run_small : {p : Place} {o : Result Place Rejection} → o ≡ place_of (scale_of n) x L i d → o ≡ Ok p → (p.from < 2 ^ 32) × (p.length < 2 ^ 32)
  run_small {p} e q =
      let ends = run_ends n x L i d in
      rw (given (scale_of n) x L i d p e q) (omega (arith, ends), omega (arith, ends))

  pub run-shown : {p : Place} {o : Result Place Rejection} → o ≡ place_of (scale_of n) x L i d → o ≡ Ok p → {a : ℕ} → a ≡ arena_of d
      → shown 0 a p.from p.length ≡ run_said n L i d x
  unfolding run_said if_accepted
  run-shown {p} e q f = rw (f, given (scale_of n) x L i d p e q, ← accepted_by (scale_of n) x L i d p e q) refl

  pub run-refused : {r : Rejection} {o : Result Place Rejection} → o ≡ place_of (scale_of n) x L i d → o ≡ Err r
      → shown (refusal_number r.refusal) 0 0 0 ≡ run_said n L i d x
  unfolding run_said run_of run_from_of if_accepted
  run-refused {r} e q = rw (← refused_by (scale_of n) x L i d r e q) refl
