-- Document 02, T-02: "exactly one of codes 0 to 12 holds for any window and trip, points too, so the thirteen counts for a window add up to the table's
-- trips." T-07: "T-02's total counts the trips that run that day."
use mathlib.Core.Path.{◌≡◌, sym, ◌∙◌}
use mathlib.Core.Bool.{not, ◌&&◌}
use mathlib.Core.List.{List, Memᴰ as Mem}
use Prim.Native.Nat.{ℕ, ◌≤◌, ◌<◌}
use native.Mathlib.Nat.{le_trans}
use native.Mathlib.Omega.{arith}
use lib.Dec.{T}
use lib.ListN.{length}
use Rattle.lists.specs.Lists.{sum_to, keep}
use Rattle.lists.proofs.Members.{of_keep, keep-length}
use Rattle.lists.proofs.Sums.{sum_ext}
use Rattle.ruler.specs.declared.Numbers.{Numbers}
use Rattle.ruler.specs.Ruler.{scale_of}
use Rattle.trip.specs.declared.Trip.{Trip}
use Rattle.trip.specs.declared.Window.{Window}
use Rattle.trip.specs.declared.Relationship.TheVariants.{Before, After, GOverlaps}
use Rattle.trip.specs.Relationships.{code_of, last_code, related, thirteen, holds_by, code_holds}
use Rattle.trip.specs.Trips.{runs_on, window_of, asking_of}
use Rattle.trip.proofs.Naming.{code_names}
use Rattle.trip.proofs.ExactlyOne.{one_of_thirteen, neither_before_nor_after}
use Rattle.trip.proofs.CountsAddUp.{thirteen_kept, overlapping_kept}
use Rattle.layout.specs.Outcomes.{Accepted}
use Rattle.layout.specs.Words.{rows, Index}
use Rattle.layout.specs.Answers.{matching, matches, question}
use Rattle.layout.specs.Refusals.{window_tests, IndexOf}
use Rattle.layout.specs.Calls.{Asked, ask_of}
use Rattle.layout.proofs.Indexes.{given_table, given_fair}
use Rattle.layout.proofs.Given.{asked_on_ruler, given_count}
use Rattle.demands.proofs.Exact.{accepted-exactly}

-- ---- a window and a trip

-- where neither is backward, there is a code that holds, and any code that holds is that code
pub exactly_one : (q : Window) (t : Trip) → q.start.0 ≤ q.end.0 → t.start.0 ≤ t.end.0
    → (code : ℕ) × (code < thirteen) × T (code_holds code q t) × ((other : ℕ) → other < thirteen → T (code_holds other q t) → other ≡ code)
exactly_one = one_of_thirteen

-- G-OVERLAPS in terms of the thirteen, of any window and trip: it holds exactly where neither BEFORE nor AFTER does
pub overlaps_exactly : (q : Window) (t : Trip) → related GOverlaps q t ≡ (not (related Before q t) && not (related After q t))
overlaps_exactly = neither_before_nor_after

-- ---- a table, a window and a day: what the questions of each code are told, each with a list of its own

module _ (n : Numbers) (x : Index) (table : List ℕ) (g : IndexOf (scale_of n) table x) (start end day : ℕ) (lists : (code : ℕ) → List ℕ) where
  abbrev told : (code : ℕ) → Asked
  told code = ask_of (scale_of n) x (asking_of code start end day) (lists code)

  -- the table's trips that run that day
  abbrev running : List Trip
  running = keep (runs_on day) (rows table)

  -- they are accepted, where the window passes 4 and 5 and the day 17, and each list has a word for each trip
  pub all_accepted : window_tests (scale_of n) (window_of start end) day Accepted ≡ Accepted → ((code : ℕ) → length (rows table) ≤ length (lists code))
      → (code : ℕ) → code ≤ last_code → (told code).outcome ≡ Accepted
  unfolding matches
  all_accepted on_ruler_lem room code h =
      let q = asking_of code start end day in
      let r = code_names code h in
      (accepted-exactly n x table g q r.0 r.1 (lists code) on_ruler_lem).1
      (le_trans (keep-length (matching (question r.0 q)) (rows table)) (room code))

  -- an accepted question counts the trips of that day of which its code holds
  holding : (code : ℕ) → code ≤ last_code → (told code).outcome ≡ Accepted → (told code).count
      ≡ length (keep (code_holds code (window_of start end)) running)
  unfolding ask_of
  holding code h accepted =
      let r = code_names code h in
      given_count (scale_of n) (given_fair n table x g) table x g (asking_of code start end day) r.0 r.1 (lists code) accepted

  -- its window is not backward, and no trip of the table is
  forward : (code : ℕ) → (told code).outcome ≡ Accepted → start ≤ end
  unfolding ask_of
  forward code accepted = (asked_on_ruler (scale_of n) x (asking_of code start end day) (length (lists code)) accepted).ordered

  in_order : (t : Trip) → Mem t running → t.start.0 ≤ t.end.0
  in_order t m = ((given_table (scale_of n) table x g).rows_ok.fits t (of_keep (runs_on day) (rows table) t m).0).times.ordered

  -- "the thirteen counts for a window add up to the table's trips", to those "that run that day"
  pub thirteen-counts : ((code : ℕ) → code < thirteen → (told code).outcome ≡ Accepted) → sum_to (λ code. (told code).count) thirteen
      ≡ length (keep (runs_on day) (rows table))
  thirteen-counts accepted =
      sum_ext _ _ thirteen (λ code h. holding code (omega arith) (accepted code h))
      ∙ thirteen_kept (window_of start end) (forward 0 (accepted 0 (omega arith))) running in_order

  -- and those of the codes below BEFORE's to that of G-OVERLAPS
  pub overlapping_counts : ((code : ℕ) → code ≤ last_code → (told code).outcome ≡ Accepted)
      → sum_to (λ code. (told code).count) (code_of Before) ≡ (told (code_of GOverlaps)).count
  unfolding code_of holds_by
  overlapping_counts accepted =
      sum_ext _ _ (code_of Before) (λ code h. holding code (omega arith) (accepted code (omega arith)))
      ∙ overlapping_kept (window_of start end) (forward 0 (accepted 0 (omega arith))) running in_order
      ∙ sym (holding (code_of GOverlaps) (omega arith) (accepted (code_of GOverlaps) (omega arith)))
