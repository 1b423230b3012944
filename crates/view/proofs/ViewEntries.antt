-- What each entry answers: where the index was opened, what its directory says; where it was refused, nothing.
use Rattle.std.proofs.Common.{Err, Ok, Result}
use Rattle.std.specs.Result.{result_unwrap_or}
use mathlib.Core.Path.{◌≡◌, refl, sym, ap, ◌∙◌}
use mathlib.Core.Bool.{true, false}
use mathlib.Core.List.{List, []}
use Prim.Native.Nat.{ℕ, ◌+◌, ◌-◌, ◌*◌, ◌^◌, ◌≤◌, ◌<◌}
use native.Mathlib.Omega.{arith}
use lib.ListN.{length, get_or, take, drop}
use Rattle.ruler.specs.declared.Numbers.{Numbers}
use Rattle.ruler.specs.declared.Ruler.{Ruler}
use Rattle.ruler.specs.Ruler.{Scale, deepest, scale_of}
use Rattle.ruler.specs.Made.{scale}
use Rattle.ruler.proofs.Fair.{scale-good, scale-m}
use Rattle.layout.specs.declared.Half.{Half}
use Rattle.layout.specs.declared.Subdivision.{Subdivision}
use Rattle.layout.specs.declared.Refusal.{Refusal}
use Rattle.layout.specs.declared.Refusal.TheVariants.{NoSuchSlot}
use Rattle.layout.specs.declared.Rejection.{Rejection}
use Rattle.layout.specs.Outcomes.{Outcome, Accepted, Refused, rejection, given_if}
use Rattle.layout.specs.Words.{entry_words, Index}
use Rattle.layout.specs.Answers.{half_of, subdivision_numbered, run_words, run_from}
use Rattle.layout.specs.Refusals.{refuse, no_such_slot, table_of, run_outcome}
use Rattle.layout.specs.Calls.{if_accepted, census_of, run_of, run_from_of}
use Rattle.layout.proofs.Indexes.{Indexed}
use Rattle.layout.proofs.Checked.{checked}
use Rattle.layout.proofs.RulerCells.{deep-ruler}
use Rattle.layout.proofs.Viewed.{census-accepted, census_refused, run_unchecked, run_checked, Runnable, of_run, run-accepted, run-from-accepted}
use Rattle.store.specs.Passes.{most_entries}
use Rattle.store.specs.Parts.{arena_of}
use Rattle.verify.specs.Opening.{open_of}
use Rattle.verify.proofs.Opening.{Open, opened, shut}
use Rattle.view.specs.declared.Place.{Place}
use Rattle.view.specs.Directory.{slot_at}
use Rattle.view.specs.Views.{Readable, rows_opened, place_at, place_shown, place_of, slot_place}
use Rattle.view.proofs.Readings.{halves, rows_read, run-from_read, run_length, run_inside, run_part, run-few, slot-there as reads-there}

-- ---- the census

module _ (n : Numbers) (x : Index) where
  index_of : {r : Ruler} → Open n x r → Indexed (scale r) x
  index_of {r} w = checked (scale r) x w.passes

  pub readable : {o : Result Ruler Refusal} → o ≡ open_of n x → Readable o x.directory
  readable e = record { halves = λ r q. let w = opened n x r e q in halves (scale r) x (index_of w) (deep-ruler r) }

  pub rows-opened : (o : Result Ruler Refusal) → o ≡ open_of n x → rows_opened o x.directory ≡ census_of (scale_of n) x
  unfolding rows_opened
  rows-opened (Ok r) e =
      let w = opened n x r e refl in
      rows_read (scale r) x (index_of w)
      ∙ sym (census-accepted (scale r) x w.passes)
      ∙ ap (λ (k : Numbers). census_of (scale_of k) x) w.numbers
  rows-opened (Err why) e = sym (census_refused (scale_of n) x why 0 (shut n x why e refl))

-- ---- the place of a run

no_place : (s : Scale) (x : Index) (L i d : ℕ) (why : Refusal) → run_outcome s x L i d ≡ Refused why 0 → Err (rejection why 0) ≡ place_of s x L i d
unfolding place_of given_if
no_place s x L i d why e = rw e

module _ (n : Numbers) (x : Index) (L i d : ℕ) where
  pub place_shut : (why : Refusal) {o : Result Ruler Refusal} → o ≡ open_of n x → o ≡ Err why → Err (rejection why 0) ≡ place_of (scale_of n) x L i d
  place_shut why e q = no_place (scale_of n) x L i d why (run_unchecked (scale_of n) x L i d why 0 (shut n x why e q))

  module _ (r : Ruler) (w : Open n x r) where
    so_for : place_of (scale r) x L i d ≡ place_of (scale_of n) x L i d
    so_for = ap (λ (k : Numbers). place_of (scale_of k) x L i d) w.numbers

    pub place_nowhere : no_such_slot (scale r) L i d ≡ true → Err (rejection NoSuchSlot 0) ≡ place_of (scale_of n) x L i d
    unfolding refuse
    place_nowhere e = no_place (scale r) x L i d NoSuchSlot (run_checked (scale r) x L i d true w.passes (sym e)) ∙ so_for

    module _ (e : no_such_slot (scale r) L i d ≡ false) where
      accepted : run_outcome (scale r) x L i d ≡ Accepted
      unfolding refuse
      accepted = run_checked (scale r) x L i d false w.passes (sym e)

      told : Runnable (scale r) x L i d
      told = of_run (scale r) x L i d accepted

      pub slot-named : (m : ℕ) → m ≡ (scale r).m → (m ≤ deepest) × (L ≤ m) × (i < 2 ^ L)
      slot-named m p = rw p (deep-ruler r, told.deep, told.there)

      -- the subdivision c has the number d, and its slot's word stands at `at`
      module _ (c : Subdivision) (p : c ≡ subdivision_numbered d) (at : ℕ) (m : ℕ) (q : m ≡ (scale r).m) (a : at ≡ slot_at m L i c) where
        pub slot-there : (at + 1 < length x.directory) × (get_or x.directory at 0 ≤ get_or x.directory (at + 1) 0)
        slot-there =
            let t = reads-there (scale r) x told.is-index L i c told.deep told.there in
            rw (a, q) (t.to_in, t.rises)

        pub place_there : Ok (slot_place x.directory at) ≡ place_of (scale_of n) x L i d
        unfolding slot_place place_of given_if
        place_there =
            let s = scale r in
            let from : entry_words * get_or x.directory at 0 ≡ run_from_of s x L i d =
            rw (a, q) (run-from_read s x told.is-index L i c told.deep told.there)
            ∙ ap (run_from s (table_of s x) L i) p ∙ sym (run-from-accepted s x L i d accepted) in
            let long : entry_words * get_or x.directory (at + 1) 0 - entry_words * get_or x.directory at 0 ≡ length (run_of s x L i d) =
            rw (a, q) (run_length s x told.is-index L i c told.deep told.there)
            ∙ ap (λ (k : Subdivision). length (run_words s (table_of s x) L i k)) p ∙ ap length (sym (run-accepted s x L i d accepted)) in
            rw accepted (λ j. Ok (place_at (from j) (long j))) ∙ so_for

-- what is shown where the call says nothing is nothing
pub place_or : (s : Scale) (x : Index) (L i d : ℕ) → result_unwrap_or (place_of s x L i d) (place_at 0 0) ≡ place_shown s x L i d
unfolding place_of given_if run_of run_from_of if_accepted
place_or s x L i d = go (run_outcome s x L i d)
  where
    shown : Outcome → Place
    shown o = place_at (if_accepted o (run_from s (table_of s x) L i (subdivision_numbered d)) 0)
        (length (if_accepted o (run_words s (table_of s x) L i (subdivision_numbered d)) []))

    go : (o : Outcome) → result_unwrap_or (given_if o (shown o)) (place_at 0 0) ≡ shown o
    go (Ok _) = refl
    go (Err r) = refl

pub shown : (s : Scale) (x : Index) (L i d : ℕ) {p : Place} {o : Result Place Rejection} → p ≡ result_unwrap_or o (place_at 0 0) → o ≡ place_of s x L i d
    → p ≡ place_shown s x L i d
shown s x L i d e q = e ∙ ap (λ (o : Result Place Rejection). result_unwrap_or o (place_at 0 0)) q ∙ place_or s x L i d

-- the outcome is that of the place
pub refused_by : (s : Scale) (x : Index) (L i d : ℕ) (r : Rejection) {o : Result Place Rejection} → o ≡ place_of s x L i d → o ≡ Err r
    → Err r ≡ run_outcome s x L i d
unfolding place_of given_if
refused_by s x L i d r e q = go (run_outcome s x L i d) (sym e ∙ q)
  where
    go : (c : Outcome) → given_if c (place_shown s x L i d) ≡ Err r → Err r ≡ c
    go (Ok _) h = absurd cc
    go (Err w) h = let same : r ≡ w = cc in ap Err same

pub accepted_by : (s : Scale) (x : Index) (L i d : ℕ) (p : Place) {o : Result Place Rejection} → o ≡ place_of s x L i d → o ≡ Ok p
    → Accepted ≡ run_outcome s x L i d
unfolding place_of given_if
accepted_by s x L i d p e q = go (run_outcome s x L i d) (sym e ∙ q)
  where
    go : (c : Outcome) → given_if c (place_shown s x L i d) ≡ Ok p → Accepted ≡ c
    go (Ok _) h = refl
    go (Err w) h = absurd cc

pub given : (s : Scale) (x : Index) (L i d : ℕ) (p : Place) {o : Result Place Rejection} → o ≡ place_of s x L i d → o ≡ Ok p → p ≡ place_shown s x L i d
given s x L i d p {o} e q =
    let here : p ≡ result_unwrap_or o (place_at 0 0) = rw q refl in
    shown s x L i d here e

-- ---- a run as a part of its arena

module _ (s : Scale) (x : Index) (L i d : ℕ) where
  -- refused, it begins at 0 and has no word; accepted, it is that of a slot
  run-cases : (P : (from : ℕ) (run : List ℕ) → Type 0) → P 0 []
      → (Runnable s x L i d → P (run_from s (table_of s x) L i (subdivision_numbered d)) (run_words s (table_of s x) L i (subdivision_numbered d)))
      → P (run_from_of s x L i d) (run_of s x L i d)
  unfolding run_of run_from_of if_accepted
  run-cases P none some = go (run_outcome s x L i d) refl
    where
      go : (o : Outcome) → run_outcome s x L i d ≡ o
          → P (if_accepted o (run_from s (table_of s x) L i (subdivision_numbered d)) 0)
          (if_accepted o (run_words s (table_of s x) L i (subdivision_numbered d)) [])
      go (Ok _) e = some (of_run s x L i d e)
      go (Err r) e = none

  -- for the arena that the code has taken, of the half h, and the place p in it
  module _ {h : Half} {arena : List ℕ} {p : Place} (e : h ≡ half_of (subdivision_numbered d)) (f : arena ≡ arena_of h x.originals x.replicas)
      (q : p ≡ place_shown s x L i d) where
    abbrev run-arena : List ℕ
    run-arena = arena_of (half_of (subdivision_numbered d)) x.originals x.replicas

    pub part_inside_lem : p.from + p.length ≤ length arena
    part_inside_lem =
        rw (f, e, q) (run-cases (λ from run. from + length run ≤ length run-arena) (omega arith)
        (λ t. run_inside s x t.is-index L i (subdivision_numbered d) t.deep t.there))

    pub part_is : take p.length (drop p.from arena) ≡ run_of s x L i d
    part_is =
        rw (f, e, q) (run-cases (λ from run. take (length run) (drop from run-arena) ≡ run) refl
        (λ t. run_part s x t.is-index L i (subdivision_numbered d) t.deep t.there))

-- 32 bits tell where it ends
pub run_ends : (n : Numbers) (x : Index) (L i d : ℕ) → run_from_of (scale_of n) x L i d + length (run_of (scale_of n) x L i d) ≤ entry_words * most_entries
run_ends n x L i d =
    run-cases (scale_of n) x L i d (λ from run. from + length run ≤ entry_words * most_entries) (omega arith)
    (λ t. run-few (scale_of n) x t.is-index L i (subdivision_numbered d) t.deep t.there
    (scale-m n (rw (scale-good n) at t.is-index.table.good)))
