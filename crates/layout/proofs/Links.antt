-- A chain of refusals and what comes after it: the chain's own refusal stands for every rest, and else the rest decides.
use Rattle.std.proofs.Common.{Err, Ok}
use Rattle.std.specs.Result.{is_ok}
use mathlib.Core.Path.{◌≡◌, refl, sym, ap, ◌∙◌}
use mathlib.Core.Bool.{Bool, true, false, true≢false, false≢true}
use mathlib.Core.List.{List, [], ◌∷◌}
use Prim.Native.Nat.{ℕ, suc}
use Rattle.ruler.specs.declared.Time.{Time}
use Rattle.ruler.specs.Ruler.{Scale}
use Rattle.trip.specs.declared.Trip.{Trip}
use Rattle.layout.specs.declared.Refusal.{Refusal}
use Rattle.layout.specs.Outcomes.{Outcome, Accepted}
use Rattle.layout.specs.Words.{Index}
use Rattle.layout.specs.Refusals.{is_accepted, refuse, time_tests, row_tests_by, row_tests, first_bad_row, frame_tests, index_tests, check_outcome}
use Rattle.layout.specs.Calls.{if_accepted, after, leaving}

-- the first outcome where it is a refusal, and else the rest
abbrev pub and_then : (first rest : Outcome) → Outcome
and_then first rest = if_accepted first rest first

pub then_refused : (o rest : Outcome) → is_accepted o ≡ false → and_then o rest ≡ o
unfolding if_accepted is_accepted
then_refused (Ok _) rest e = absurd (true≢false e)
then_refused (Err r) rest e = refl

pub then_accepted : (o rest : Outcome) → is_accepted o ≡ true → and_then o rest ≡ rest
unfolding if_accepted is_accepted
then_accepted (Ok _) rest e = refl
then_accepted (Err r) rest e = absurd (false≢true e)

-- an outcome that is no refusal
pub is-accepted : (o : Outcome) → is_accepted o ≡ true → o ≡ Accepted
unfolding is_accepted
is-accepted (Ok _) e = refl
is-accepted (Err r) e = absurd (false≢true e)

pub is_ok_lem : (o : Outcome) → is_ok o ≡ is_accepted o
unfolding is_accepted
is_ok_lem (Ok _) = refl
is_ok_lem (Err r) = refl

-- a call that writes, by its outcome: refused, it leaves the words that it found; accepted, those that it made
pub leaves_found : (o : Outcome) {said : Outcome} (x y : Index) → is_accepted o ≡ false → o ≡ said → after o x ≡ leaving said x y
unfolding leaving if_accepted is_accepted
leaves_found (Ok _) x y e q = absurd (true≢false e)
leaves_found (Err r) x y e q = rw (← q)

pub leaves_made : {said : Outcome} (x y : Index) {z : Index} → said ≡ Accepted → z ≡ y → after Accepted z ≡ leaving said x y
unfolding leaving if_accepted
leaves_made x y e q = rw (e, q)

then_then : (a b c : Outcome) → and_then (and_then a b) c ≡ and_then a (and_then b c)
unfolding if_accepted
then_then (Ok _) b c = refl
then_then (Err r) b c = refl

-- ---- the chains

-- one link before a chain: what follows the chain follows both
link : (b : Bool) (why : Refusal) (k : ℕ) (all first rest : Outcome) → all ≡ and_then first rest
    → refuse b why k all ≡ and_then (refuse b why k first) rest
unfolding refuse if_accepted
link true why k all first rest e = refl
link false why k all first rest e = e

pub time_then : (s : Scale) (start end : Time) (k : ℕ) (rest : Outcome)
    → time_tests s start end k rest ≡ and_then (time_tests s start end k Accepted) rest
unfolding time_tests if_accepted
time_then s start end k rest = link _ _ k _ _ rest (link _ _ k rest Accepted rest refl)

pub row_then : (s : Scale) (there : List Trip) (t : Trip) (k : ℕ) (rest : Outcome)
    → row_tests s there t k rest ≡ and_then (row_tests s there t k Accepted) rest
unfolding row_tests row_tests_by time_tests if_accepted
row_then s there t k rest = link _ _ k _ _ rest (link _ _ k _ _ rest (link _ _ k _ _ rest (link _ _ k rest Accepted rest refl)))

-- 1, 3: the ruler and the directory, then the rest; 1, 3, 8: the check of the index, then the rest
pub frame_then : (s : Scale) (n : ℕ) (rest : Outcome) → frame_tests s n rest ≡ and_then (frame_tests s n Accepted) rest
unfolding frame_tests if_accepted
frame_then s n rest = link _ _ 0 _ _ rest (link _ _ 0 rest Accepted rest refl)

pub index_then : (s : Scale) (x : Index) (rest : Outcome) → index_tests s x rest ≡ and_then (check_outcome s x) rest
unfolding check_outcome index_tests if_accepted
index_then s x rest = link _ _ 0 _ _ rest (link _ _ 0 _ _ rest (link _ _ 0 rest Accepted rest refl))

pub rows_then : (s : Scale) (k : ℕ) (earlier ts : List Trip) (rest : Outcome)
    → first_bad_row s k earlier ts rest ≡ and_then (first_bad_row s k earlier ts Accepted) rest
unfolding first_bad_row if_accepted
rows_then s k earlier [] rest = refl
rows_then s k earlier (t ∷ ts) rest =
    let own = row_tests s earlier t k Accepted in
    let others = first_bad_row s (suc k) (t ∷ earlier) ts Accepted in
    row_then s earlier t k (first_bad_row s (suc k) (t ∷ earlier) ts rest)
    ∙ ap (and_then own) (rows_then s (suc k) (t ∷ earlier) ts rest)
    ∙ sym (then_then own others rest) ∙ ap (λ (o : Outcome). and_then o rest) (sym (row_then s earlier t k others))
