-- The cases whose answer is not the definitions'. To say `unfolding wrong` is enough to compute it: the one long line stands here.
use Rattle.std.specs.Prelude.{cond, List, [], ◌∷◌}
use Rattle.conformance.specs.Calls.{Case}
use Rattle.lists.specs.Lists.{every, same, count, padded, keep, insert, sort, joined, up_to, over}
use Rattle.ruler.specs.Ruler.{in_bounds, scale_of, cell_up}
use Rattle.ruler.specs.Made.{judge}
use Rattle.trip.specs.Relationships.{code_of, related}
use Rattle.trip.specs.Trips.{runs_on, never_runs}
use Rattle.layout.specs.Stored.{partitions_at, first_cell, last_cell, within, holds, holds_trip, is_original, is_in, subdivision_of, is_of, belongs}
use Rattle.layout.specs.Words.{trip_words, trip_at, words, rows, partitions, directory_length, half_length, partition_number, level_of, place_of, slot_number, by_id, by_start, by_end, order, slot_trips, slot, entries_before, entries, directory_half, arena, lengths_of, layout}
use Rattle.layout.specs.Answers.{matches, answer, answer_by, answer_to, subdivision_number, subdivision_numbered, level_count, level_row, census, half_of, is_aft, run_words, run_from}
use Rattle.layout.specs.Refusals.{is_accepted, refuse, out_of_bounds, bad_size, full, bad_directory, off_ruler, backward, has_id, no_room, exceeds, no_such_code, no_such_slot, no_such_day, time_tests, row_tests_by, row_tests, first_bad_row, build_outcome, table_of, same_index, gives, is_index, index_tests, add_outcome, remove_outcome, window_tests, question_tests, room_test, ask_outcome, run_outcome, check_outcome}
use Rattle.layout.specs.Calls.{if_accepted, leaving, build_of, add_of, without, remove_of, ask_of, no_census, census_of, run_of, run_from_of}
use Rattle.conformance.specs.Calls.{buffer, outcome, after, asked, flat, answer_of}

unfoldable pub wrong : List Case → List Case
unfolding every same count padded keep insert sort joined up_to in_bounds scale_of cell_up judge code_of related partitions_at first_cell last_cell within holds holds_trip is_original is_in subdivision_of is_of belongs trip_words trip_at words rows partitions directory_length half_length partition_number level_of place_of slot_number by_id by_start by_end order slot_trips slot entries_before entries directory_half arena lengths_of layout matches answer answer_by answer_to over subdivision_number subdivision_numbered level_count level_row census half_of is_aft run_words run_from is_accepted refuse out_of_bounds bad_size full bad_directory off_ruler backward has_id no_room exceeds no_such_code no_such_slot no_such_day runs_on never_runs time_tests row_tests_by row_tests first_bad_row build_outcome table_of same_index gives is_index index_tests add_outcome remove_outcome window_tests question_tests room_test ask_outcome run_outcome check_outcome if_accepted leaving build_of add_of without remove_of ask_of no_census census_of run_of run_from_of buffer outcome after asked flat answer_of
wrong [] = []
wrong (c ∷ cs) = cond (same (answer_of c.call) c.answer) (wrong cs) (c ∷ wrong cs)
