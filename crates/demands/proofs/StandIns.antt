-- The stand-ins that document 01 says to try, each excluded: no function that meets the contract of its call is one. A contract is an equation with
-- `build_of`, `ask_of`, `add_of` or `remove_of`, so that a few small calls, computed, are enough.
use mathlib.Core.Path.{◌≡◌, refl, sym, ap, ◌∙◌}
use mathlib.Core.Bool.{true, false, true≢false}
use mathlib.Core.List.{List, [], ◌∷◌}
use Prim.Native.Nat.{ℕ, ◌*◌}
use native.Mathlib.Omega.{arith}
use lib.ListN.{get_or, replicate}
use Rattle.lists.specs.Lists.{every, same, count, padded, keep, insert, sort, joined, up_to, over}
use Rattle.ruler.specs.Ruler.{in_bounds, scale_of, cell_up}
use Rattle.ruler.specs.Made.{judge}
use Rattle.trip.specs.declared.Trip.{Trip}
use Rattle.trip.specs.Relationships.{code_of, related}
use Rattle.trip.specs.Trips.{trip_of, runs_on, never_runs}
use Rattle.layout.specs.declared.Refusal.TheVariants.{NoRoom}
use Rattle.layout.specs.Outcomes.{Refused}
use Rattle.layout.specs.Stored.{partitions_at, first_cell, last_cell, within, holds, holds_trip, is_original, is_in, subdivision_of, is_of, belongs}
use Rattle.layout.specs.Words.{entry_words, Index, trip_words, trip_at, words, rows, partitions, directory_length, half_length, partition_number, level_of, place_of, slot_number, by_id, by_start, by_end, order, slot_trips, slot, entries_before, entries, directory_half, arena, lengths_of, layout}
use Rattle.layout.specs.Answers.{matches, answer, answer_by, answer_to, subdivision_number, subdivision_numbered, level_count, level_row, census, half_of, is_aft, run_words, run_from}
use Rattle.layout.specs.Refusals.{is_accepted, refuse, out_of_bounds, bad_size, full, bad_directory, off_ruler, backward, has_id, no_room, exceeds, no_such_code, no_such_slot, no_such_day, time_tests, row_tests_by, row_tests, first_bad_row, build_outcome, table_of, same_index, gives, is_index, index_tests, add_outcome, remove_outcome, window_tests, question_tests, room_test, ask_outcome, run_outcome, check_outcome}
use Rattle.layout.specs.Calls.{After, Asked, index, if_accepted, leaving, build_of, add_of, without, remove_of, ask_of, no_census, census_of, run_of, run_from_of}
use Rattle.demands.specs.StandIns.{ruler, all_of, accepted, listed, OnlyOk, RightOnce}

-- ---- the calls: an empty index with room for two trips, and two trips, which run on day 0

abbrev empty : Index
empty = index (0 ∷ 0 ∷ 0 ∷ 0 ∷ 0 ∷ 0 ∷ []) (replicate (2 * entry_words) 0) []

abbrev five : Trip
five = trip_of 5 0 1 1

abbrev seven : Trip
seven = trip_of 7 1 1 1

unfoldable with_five : Index
with_five = (add_of ruler empty five).words

unfoldable with_seven : Index
with_seven = (add_of ruler empty seven).words

unfoldable with_both : Index
with_both = (add_of ruler with_five seven).words

-- what the contracts say of them
record Computed : Type 0 where
  build_accepts : accepted (build_of ruler [] empty) ≡ true
  ask_accepts : is_accepted (all_of empty (0 ∷ [])).outcome ≡ true
  asks_five : is_accepted (all_of with_five (0 ∷ [])).outcome ≡ true
  asks_seven : is_accepted (all_of with_seven (0 ∷ [])).outcome ≡ true
  lists_five : listed (all_of with_five (0 ∷ [])) ≡ 5 ∷ []
  lists-seven : listed (all_of with_seven (0 ∷ [])) ≡ 7 ∷ []
  counts-none : (all_of empty (0 ∷ [])).count ≡ 0
  counts_one : (all_of with_five (0 ∷ [])).count ≡ 1
  tells_one : (all_of with_five []).outcome ≡ Refused NoRoom 1
  tells_two : (all_of with_both []).outcome ≡ Refused NoRoom 2
  adds_five : accepted (add_of ruler empty five) ≡ true
  five_is-there : get_or with_five.originals 0 0 ≡ 5
  adds_seven : accepted (add_of ruler with_five seven) ≡ true
  seven-is-not : get_or with_five.originals entry_words 0 ≡ 0
  seven-is-there : get_or with_both.originals entry_words 0 ≡ 7
  takes_five : accepted (remove_of ruler with_both 5) ≡ true
  five_in_front : get_or with_both.originals 0 0 ≡ 5
  seven_in_front : get_or (remove_of ruler with_both 5).words.originals 0 0 ≡ 7
  takes_seven : accepted (remove_of ruler (remove_of ruler with_both 5).words 7) ≡ true
  none_in_front : get_or (remove_of ruler (remove_of ruler with_both 5).words 7).words.originals 0 0 ≡ 0

computed : Computed
unfolding with_five with_seven with_both every same count padded keep insert sort joined up_to in_bounds scale_of cell_up judge code_of related
    partitions_at first_cell last_cell within holds holds_trip is_original is_in subdivision_of is_of belongs trip_words trip_at words rows
    partitions directory_length half_length partition_number level_of place_of slot_number by_id by_start by_end order slot_trips slot entries_before entries
    directory_half arena lengths_of layout matches answer answer_by answer_to over subdivision_number subdivision_numbered level_count level_row census half_of is_aft
    run_words run_from is_accepted refuse out_of_bounds bad_size full bad_directory off_ruler backward has_id no_room exceeds no_such_code
    no_such_slot no_such_day runs_on never_runs time_tests row_tests_by row_tests first_bad_row build_outcome table_of same_index gives is_index index_tests add_outcome remove_outcome window_tests
    question_tests room_test ask_outcome run_outcome check_outcome if_accepted leaving build_of add_of without remove_of ask_of no_census census_of run_of run_from_of
computed = record {
  build_accepts = refl;
  ask_accepts = refl;
  asks_five = refl;
  asks_seven = refl;
  lists_five = refl;
  lists-seven = refl;
  counts-none = refl;
  counts_one = refl;
  tells_one = refl;
  tells_two = refl;
  adds_five = refl;
  five_is-there = refl;
  adds_seven = refl;
  seven-is-not = refl;
  seven-is-there = refl;
  takes_five = refl;
  five_in_front = refl;
  seven_in_front = refl;
  takes_seven = refl;
  none_in_front = refl;
}

-- ---- a build that meets its contract on this ruler

module _ (build : List ℕ → Index → After) (meets : (table : List ℕ) (x : Index) → build table x ≡ build_of ruler table x) where
  -- "One that refuses everything"
  pub not_refusing_all_tables : ((table : List ℕ) (x : Index) → accepted (build table x) ≡ false) → ⊥
  not_refusing_all_tables refuses = true≢false (sym (ap accepted (meets [] empty) ∙ computed.build_accepts) ∙ refuses [] empty)

-- ---- a question that meets its contract on this ruler

module _ (ask : Index → (list : List ℕ) → Asked) (meets : (x : Index) (list : List ℕ) → ask x list ≡ all_of x list) where
  -- "One that refuses everything"
  pub not_refusing_all_questions : ((x : Index) (list : List ℕ) → is_accepted (ask x list).outcome ≡ false) → ⊥
  not_refusing_all_questions refuses =
      true≢false (sym (ap (λ (a : Asked). is_accepted a.outcome) (meets empty (0 ∷ [])) ∙ computed.ask_accepts) ∙ refuses empty (0 ∷ []))

  -- an accepted question to x is one that the contract accepts
  passes : (x : Index) (list : List ℕ) → is_accepted (all_of x list).outcome ≡ true → is_accepted (ask x list).outcome ≡ true
  passes x list e = ap (λ (a : Asked). is_accepted a.outcome) (meets x list) ∙ e

  -- "one that gives a fixed list": every accepted question lists the same ids, whatever the table, though they may follow the list lent
  pub not_a_fixed_list : (fixed : (list : List ℕ) → List ℕ)
      → ((x : Index) (list : List ℕ) → is_accepted (ask x list).outcome ≡ true → listed (ask x list) ≡ fixed list) → ⊥
  not_a_fixed_list fixed gives =
      let first : List ℕ → ℕ = λ (l : List ℕ). get_or l 0 0 in
      let of : (x : Index) → is_accepted (all_of x (0 ∷ [])).outcome ≡ true → listed (all_of x (0 ∷ [])) ≡ fixed (0 ∷ []) =
      λ x e. ap listed (sym (meets x (0 ∷ []))) ∙ gives x (0 ∷ []) (passes x (0 ∷ []) e) in
      let five-first = ap first (sym (of with_five computed.asks_five) ∙ computed.lists_five) in
      let seven-first = ap first (sym (of with_seven computed.asks_seven) ∙ computed.lists-seven) in
      omega (arith, five-first, seven-first)

  -- "An invented count": every accepted question gives the same one
  pub not_an_invented_count : (invented : (list : List ℕ) → ℕ)
      → ((x : Index) (list : List ℕ) → is_accepted (ask x list).outcome ≡ true → (ask x list).count ≡ invented list) → ⊥
  not_an_invented_count invented gives =
      let of : (x : Index) → is_accepted (all_of x (0 ∷ [])).outcome ≡ true → (all_of x (0 ∷ [])).count ≡ invented (0 ∷ []) =
      λ x e. ap (λ (a : Asked). a.count) (sym (meets x (0 ∷ []))) ∙ gives x (0 ∷ []) (passes x (0 ∷ []) e) in
      omega (arith, of empty computed.ask_accepts, of with_five computed.asks_five, computed.counts-none, computed.counts_one)

  -- an invented detail of refusal 7: every question that is refused so tells the same one
  pub not_an_invented_detail : (invented : (list : List ℕ) → ℕ)
      → ((x : Index) (list : List ℕ) (d : ℕ) → (ask x list).outcome ≡ Refused NoRoom d → d ≡ invented list) → ⊥
  not_an_invented_detail invented gives =
      let of : (x : Index) (d : ℕ) → (all_of x []).outcome ≡ Refused NoRoom d → d ≡ invented [] =
      λ x d e. gives x [] d (ap (λ (a : Asked). a.outcome) (meets x []) ∙ e) in
      omega (arith, of with_five 1 computed.tells_one, of with_both 2 computed.tells_two)

-- ---- an addition and a removal that meet their contracts on this ruler

-- what such an edit says of its contract
module _ {A : Type 0} (edit said : Index → A → After) (meets : (x : Index) (a : A) → edit x a ≡ said x a) where
  idle : OnlyOk edit → (x : Index) (a : A) → accepted (said x a) ≡ true → (said x a).words ≡ x
  idle idles x a e = ap (λ (r : After). r.words) (sym (meets x a)) ∙ idles x a (ap accepted (meets x a) ∙ e)

  idle_later : RightOnce edit → (x : Index) (a b : A) → accepted (said (said x a).words b) ≡ true
      → (said (said x a).words b).words ≡ (said x a).words
  idle_later idles x a b e =
      let first : (edit x a).words ≡ (said x a).words = ap (λ (r : After). r.words) (meets x a) in
      let later : edit (edit x a).words b ≡ said (said x a).words b = ap (λ (y : Index). edit y b) first ∙ meets (said x a).words b in
      ap (λ (r : After). r.words) (sym later) ∙ idles x a b (ap accepted later ∙ e) ∙ first

module _ (add : Index → Trip → After) (meets : (x : Index) (t : Trip) → add x t ≡ add_of ruler x t) where
  -- "An edit that only says "ok""
  pub no_addition_only_says_ok : OnlyOk add → ⊥
  unfolding with_five
  no_addition_only_says_ok idles =
      let same = idle add (add_of ruler) meets idles empty five computed.adds_five in
      omega (arith, ap (λ (x : Index). get_or x.originals 0 0) same, computed.five_is-there)

  -- "one that is right the first time and pretends later"
  pub no_addition_right_once : RightOnce add → ⊥
  unfolding with_five with_both
  no_addition_right_once idles =
      let same = idle_later add (add_of ruler) meets idles empty five seven computed.adds_seven in
      omega (arith, ap (λ (x : Index). get_or x.originals entry_words 0) same, computed.seven-is-not, computed.seven-is-there)

module _ (remove : Index → (id : ℕ) → After) (meets : (x : Index) (i : ℕ) → remove x i ≡ remove_of ruler x i) where
  pub no_removal_only_says_ok : OnlyOk remove → ⊥
  no_removal_only_says_ok idles =
      let same = idle remove (remove_of ruler) meets idles with_both 5 computed.takes_five in
      omega (arith, ap (λ (x : Index). get_or x.originals 0 0) same, computed.five_in_front, computed.seven_in_front)

  pub no_removal_right_once : RightOnce remove → ⊥
  no_removal_right_once idles =
      let same = idle_later remove (remove_of ruler) meets idles with_both 5 7 computed.takes_seven in
      omega (arith, ap (λ (x : Index). get_or x.originals 0 0) same, computed.seven_in_front, computed.none_in_front)
