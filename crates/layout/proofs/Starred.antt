-- The starred examples of document 01, and those of T-09 and T-07, as one statement over one list of them: all but the night's index by computing.
use mathlib.Core.Path.{◌≡◌, refl}
use mathlib.Core.List.{List, [], ◌∷◌}
use Prim.Native.Nat.{ℕ}
use lib.Dec.{T}
use Rattle.lists.specs.Lists.{every, same, count, padded, keep, insert, sort, joined, up_to, over}
use Rattle.ruler.specs.Ruler.{in_bounds, scale_of, cell_up, numbers_of}
use Rattle.ruler.specs.Made.{judge}
use Rattle.trip.specs.declared.Relationship.TheVariants.{GOverlaps}
use Rattle.trip.specs.Relationships.{code_of, related}
use Rattle.trip.specs.Trips.{runs_on, never_runs, window_of, asking_of}
use Rattle.trip.proofs.Codes.{named_code}
use Rattle.layout.specs.Outcomes.{Accepted}
use Rattle.layout.specs.Stored.{partitions_at, first_cell, last_cell, within, holds, holds_trip, is_original, is_in, subdivision_of, is_of, belongs}
use Rattle.layout.specs.Words.{trip_words, trip_at, words, rows, partitions, directory_length, half_length, partition_number, level_of, place_of, partitions_holding, slot_number, by_id, by_start, by_end, order, slot_trips, slot, entries_before, entries, directory_half, arena, lengths_of, layout}
use Rattle.layout.specs.Answers.{matches, answer, question, answer_by, answer_to, subdivision_number, subdivision_numbered, level_count, level_row, census, half_of, is_aft, run_words, run_from}
use Rattle.layout.specs.Refusals.{is_accepted, refuse, out_of_bounds, bad_size, full, bad_directory, off_ruler, backward, has_id, no_room, exceeds, no_such_code, no_such_slot, no_such_day, time_tests, row_tests_by, row_tests, first_bad_row, build_outcome, table_of, same_index, gives, is_index, index_tests, add_outcome, remove_outcome, window_tests, question_tests, room_test, ask_outcome, run_outcome, check_outcome}
use Rattle.layout.specs.Calls.{if_accepted, leaving, build_of, add_of, without, remove_of, ask_of, no_census, census_of, run_of, run_from_of}
use Rattle.layout.specs.Examples.{every_day, daily, day_zero, ruler, seven, three, nine, four, the_index, cells, stored, in_all, is, lists, refuses, night, night_lists, as_row, as_window, spread, service, daytime, weekdays, weekend, last_of_all, roomy, as_rows, index_of, on_day, on_no_day, AllHold, none, more, starred, fullness}
use Rattle.layout.proofs.Left.{built_asked}

-- what the night's index lists, whatever the buffers: its ids are those of the table, which compute
night-lists : (start end : ℕ) (ids : List ℕ) → window_tests (ruler 18 10) (window_of start end) day_zero Accepted ≡ Accepted
    → answer (question GOverlaps (asking_of (code_of GOverlaps) start end day_zero)) (night ∷ []) ≡ ids → night_lists start end ids
unfolding night_lists ruler
night-lists start end ids on_ruler_lem right =
    built_asked (numbers_of 18 10) (night ∷ []) GOverlaps (asking_of (code_of GOverlaps) start end day_zero) ids (named_code GOverlaps) on_ruler_lem right

-- one statement more of a list (as a function, so that each proof is read at its own statement)
infixr 5 ◌also◌
◌also◌ : {statement : Type 0} {l : List (Type 0)} → statement → AllHold l → AllHold (statement ∷ l)
◌also◌ p rest = more p rest

pub starred_hold : AllHold starred
unfolding every same count padded keep insert sort joined up_to in_bounds scale_of cell_up judge code_of related partitions_at first_cell last_cell within
    holds holds_trip is_original is_in subdivision_of is_of belongs trip_words trip_at words rows partitions directory_length half_length
    partition_number level_of place_of slot_number by_id by_start by_end order slot_trips slot entries_before entries directory_half arena lengths_of layout
    matches answer answer_by answer_to over subdivision_number subdivision_numbered level_count level_row census half_of is_aft run_words run_from is_accepted refuse
    out_of_bounds bad_size full bad_directory off_ruler backward has_id no_room exceeds no_such_code partitions_holding no_such_slot no_such_day runs_on never_runs time_tests row_tests_by row_tests
    first_bad_row build_outcome table_of same_index gives is_index index_tests add_outcome remove_outcome window_tests question_tests room_test ask_outcome run_outcome
    check_outcome if_accepted leaving build_of add_of without remove_of ask_of no_census census_of run_of run_from_of every_day daily day_zero ruler seven three nine four
    the_index cells stored in_all is lists refuses night as_row as_window spread service daytime weekdays weekend last_of_all roomy as_rows index_of on_day on_no_day starred
starred_hold =
    (refl, refl) also tt also tt also tt also refl
    also tt also refl also tt also refl also tt also tt also refl
    also refl also (refl, refl) also refl
    also refl also refl also refl
    also refl also refl
    also (refl, refl) also (refl, refl) also (refl, refl) also (refl, refl)
    also (refl, refl) also night-lists _ _ _ refl refl also night-lists _ _ _ refl refl also (refl, refl) also (refl, refl)
    also (refl, refl) also (refl, refl) also (refl, refl)
    also (refl, refl) also (refl, refl)
    also (refl, refl)
    also (refl, refl) also (refl, refl)
    also (refl, refl) also tt also refl
    also (refl, refl) also tt also tt also tt also tt also refl
    also (refl, refl) also (refl, refl)
    also refl also refl also refl also refl also refl also refl
    also (refl, refl) also (refl, refl) also (refl, refl) also (refl, refl) also (refl, refl)
    also (refl, refl) also (refl, refl) also (refl, refl) also (refl, refl)
    also (refl, refl) also (refl, refl)
    also none

-- the edge of a full index, computed on tables of 4,095 and 4,096 trips
pub fullness-holds : T (every fullness)
unfolding every fullness full three
fullness-holds = tt
