-- A question on an index: its plan is ready to be walked, and what the walk lists, sorted, is the answer.
use mathlib.Core.Path.{◌≡◌, sym, ap, ap₂, ◌∙◌}
use mathlib.Core.Bool.{Bool, true, false}
use mathlib.Core.List.{List, Memᴰ as Mem}
use Prim.Native.Nat.{◌+◌, ◌*◌, ◌≤◌, ◌<◌}
use native.Mathlib.Omega.{arith}
use lib.Dec.{T, leb}
use lib.ListN.{length, get_or}
use Rattle.lists.specs.Lists.{keep, ascending}
use Rattle.lists.proofs.Tests.{of_and, of_T, to_T}
use Rattle.lists.proofs.Members.{keep-length, length-sort, pairs_keep}
use Rattle.lists.proofs.Sorting.{ascending-same}
use Rattle.lists.proofs.Kept.{keep_ext}
use Rattle.ruler.specs.declared.Time.{Time}
use Rattle.ruler.specs.declared.Ruler.{Ruler}
use Rattle.ruler.specs.Ruler.{Scale, most_trips}
use Rattle.ruler.specs.Made.{scale}
use Rattle.ruler.proofs.Fair.{Fair}
use Rattle.trip.specs.declared.Trip.{Trip}
use Rattle.trip.specs.declared.Window.{Window}
use Rattle.trip.specs.declared.Question.{Question}
use Rattle.trip.specs.Relationships.{related}
use Rattle.trip.specs.Trips.{last_day, runs_on}
use Rattle.layout.specs.Words.{partitions, Index, lengths_of, entries}
use Rattle.layout.specs.Answers.{matching, matches, answer}
use Rattle.layout.specs.Refusals.{table_of, is_index, OnRuler}
use Rattle.layout.proofs.RulerCells.{fair_ruler, deep-ruler}
use Rattle.layout.proofs.Tables.{Table}
use Rattle.layout.proofs.Indexes.{of_is_index, back_length}
use Rattle.layout.proofs.SortedLists.{ids-differ, ids_in}
use Rattle.layout.proofs.ByDirectory.{originals_laid}
use Rattle.store.specs.Entries.{ids}
use Rattle.plan.specs.declared.sought.Sought.{Sought}
use Rattle.plan.specs.declared.range.Plan.{Plan}
use Rattle.plan.specs.Bounds.{far, inside, bounds_of}
use Rattle.plan.specs.Sought.{is_sought, sought_by}
use Rattle.plan.specs.Plan.{plan_for}
use Rattle.plan.proofs.Inside.{inside-related}
use Rattle.plan.proofs.SoughtMatches.{sought_matches, sought_inside}
use Rattle.plan.proofs.Walked.{Suits, walk_in, in_walk, walk_distinct}
use Rattle.plan.proofs.Suited.{plan_for_lem, in_range, suits_plan, quick_right}
use Rattle.walk.specs.Levels.{LevelsThere, walk_matches}
use Rattle.walk.proofs.Levels.{Ready, levels_there, walk-matches}
use Rattle.walk.proofs.Written.{ids-length}

module _ (ruler : Ruler) (x : Index) (is : is_index (scale ruler) x ≡ true) (q : Question)
    (on : OnRuler (scale ruler) q.window.start q.window.end × (q.day ≤ last_day)) where
  abbrev s : Scale
  s = scale ruler

  abbrev ts : List Trip
  ts = table_of s x

  abbrev w : Window
  w = q.window

  abbrev test : Bool → Trip → Bool
  test = is_sought (sought_by q)

  abbrev p : Plan
  p = plan_for s q.relationship q.window

  falls : Fair s
  falls = fair_ruler ruler

  table : Table s ts (lengths_of x)
  table = (of_is_index s x (to_T is)).table

  -- a time of the ruler is below the greatest
  near : (t : Time) → T (s.has t) → t.0 < far
  near t h = omega (arith, falls.not-far t h)

  pub window_near : (w.start.0 < far) × (w.end.0 < far) × (q.day ≤ last_day)
  window_near = (near w.start on.0.starts, near w.end on.0.ends, on.1)

  -- on the table's trips the bounds say what the relationship does, and what is sought is what matches
  within : (t : Trip) → Mem t ts → inside (bounds_of q.relationship w) t ≡ related q.relationship w t
  within t m =
      let f = table.rows_ok.fits t m in
      inside-related q.relationship w t (near t.start f.times.starts) (near t.end f.times.ends)

  agrees : (t : Trip) → Mem t ts → test false t ≡ matching q t
  agrees t m =
      let f = table.rows_ok.fits t m in
      sought_matches q t (near t.start f.times.starts) (near t.end f.times.ends)

  order : s.cell w.start ≤ s.cell w.end
  order = falls.never_falls w.start w.end on.0.ordered

  ready : Ready s test p x
  ready = rw (plan_for_lem s q.relationship w) (record {
    indexed = is;
    ranged = in_range s (deep-ruler ruler) q.relationship (s.cell w.start) (s.cell w.end) order
        (falls.one_of w.end on.0.ends);
    sure = λ e t m low high. sought_inside (sought_by q) t (within t m ∙ of_T _ (quick_right s falls q.relationship w e t low high));
  })

  suits : (t : Trip) → Mem t ts → T (test false t) → Suits p.kind p.low.1 p.high.1 (s.cell t.start) (s.cell t.end)
  suits t m h =
      let f = table.rows_ok.fits t m in
      rw (plan_for_lem s q.relationship w)
      (suits_plan s falls w t (falls.one_of t.start f.times.starts) (falls.never_falls t.start t.end f.times.ordered) order q.relationship
      (of_and (related q.relationship w t) (runs_on q.day t) (rw (agrees t m) at h)).0)

  -- ---- what the walk over the words lists

  pub words-there : LevelsThere x.directory x.originals x.replicas p
  words-there = levels_there ready

  abbrev listing : List Trip
  listing = walk_matches test x.directory x.originals x.replicas p

  pub listing_answer : ascending (ids listing) ≡ answer q ts
  unfolding answer matches
  listing_answer =
      let r = table.rows_ok in
      let o = ready.ranged.ordered in
      let d = walk_distinct s falls ts r.fits r.distinct (test false) p o suits in
      let k = pairs_keep (test false) r.distinct in
      let to = walk_in s falls ts r.fits r.distinct (test false) p o suits in
      let from = in_walk s falls ts r.fits r.distinct (test false) p o suits in
      ap (λ (l : List Trip). ascending (ids l)) (walk-matches ready)
      ∙ ascending-same (ids-differ d) (ids-differ k) (ids_in to) (ids_in from)
      ∙ ap (λ (l : List Trip). ascending (ids l)) (keep_ext (test false) (matching q) ts agrees)

  pub listing_length : length listing ≡ length (answer q ts)
  listing_length = sym (ids-length listing) ∙ sym (length-sort leb (ids listing)) ∙ ap length listing_answer

  -- no more than the trips, which are few
  pub listing_few : length listing ≤ length ts
  unfolding answer matches
  listing_few =
      let e = listing_length in
      let a = length-sort leb (ids (keep (matching q) ts)) in
      omega (arith, ids-length (keep (matching q) ts), keep-length (matching q) ts)

  pub trips_few : length ts ≤ most_trips
  trips_few = table.few

  -- the word that says how many trips there are
  pub trips_word : get_or x.directory (2 * partitions s.m) 0 ≡ length ts
  unfolding entries
  trips_word =
      let none : 0 + 2 * partitions s.m ≡ 2 * partitions s.m = omega arith in
      let word = rw none at ((originals_laid s x (of_is_index s x (to_T is))).word (2 * partitions s.m) (omega arith)) in
      word ∙ back_length s falls ts (lengths_of x) table

  pub trips_in : 2 * partitions s.m < length x.directory
  trips_in = let i = (originals_laid s x (of_is_index s x (to_T is))).inside in omega arith

  -- the same for what is sought and a plan, as the code made them
  abbrev listing_of : Sought → Plan → List Trip
  listing_of b p' = walk_matches (is_sought b) x.directory x.originals x.replicas p'

  pub same-there : {p' : Plan} → p' ≡ p → LevelsThere x.directory x.originals x.replicas p'
  same-there e = rw e words-there

  pub same_listing : {b : Sought} {p' : Plan} → b ≡ sought_by q → p' ≡ p → listing_of b p' ≡ listing
  same_listing e f = ap₂ listing_of e f
