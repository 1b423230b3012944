-- Document 01, "Numbers of refusal", as definitions: the numbers, when each is given, and the order of each call; without number 11, which document
-- 02 struck (T-06), and with 16 and 17, which it added (T-07). Every test is a Bool and computes.
use Rattle.std.specs.Prelude.{◌≡◌, Bool, true, false, not, ◌&&◌, ◌||◌, List, [], ◌∷◌, ℕ, suc, ◌*◌, ◌/◌, ◌%◌, ◌≤◌, T, leb, ltb, eqb, length, get_or, take, Err, Ok}
use Rattle.lists.specs.Lists.{same}
use Rattle.ruler.specs.declared.Time.{Time}
use Rattle.ruler.specs.Ruler.{Scale, most_trips, before}
use Rattle.trip.specs.declared.Trip.{Trip}
use Rattle.trip.specs.declared.Window.{Window}
use Rattle.trip.specs.declared.Asking.{Asking}
use Rattle.trip.specs.Relationships.{last_code}
use Rattle.trip.specs.Trips.{last_day, never_runs}
use Rattle.layout.specs.declared.Half.TheVariants.{Originals, Replicas}
use Rattle.layout.specs.declared.Refusal.{Refusal}
use Rattle.layout.specs.declared.Refusal.TheVariants.{RulerOutOfBounds, TableSize, DirectoryLength, OffRuler, Backward, IdTaken, NoRoom, NotAnIndex, NoRelationship, NoSuchId, NoSuchSlot, NoDays, NoSuchDay}
use Rattle.layout.specs.Outcomes.{Outcome, Accepted, Refused}
use Rattle.layout.specs.Stored.{partitions_at}
use Rattle.layout.specs.Words.{entry_words, words, rows, partitions, directory_length, entries, Index, Lengths, lengths_of, layout}
use Rattle.layout.specs.Answers.{answer_to, last_subdivision}

-- the column "No." There is no 11: no trip could meet its test (the law `most_partitions_lem`), and the number isn't used again.
abbrev pub refusal_number : Refusal → ℕ
refusal_number RulerOutOfBounds = 1
refusal_number TableSize = 2
refusal_number DirectoryLength = 3
refusal_number OffRuler = 4
refusal_number Backward = 5
refusal_number IdTaken = 6
refusal_number NoRoom = 7
refusal_number NotAnIndex = 8
refusal_number NoRelationship = 9
refusal_number NoSuchId = 10
refusal_number NoSuchSlot = 12
refusal_number NoDays = 16
refusal_number NoSuchDay = 17

-- "An accepted call returns number 0 and detail 0. A refusal returns its number and one detail (0 unless named)"
abbrev pub number_of : Outcome → ℕ
number_of (Ok _) = 0
number_of (Err r) = refusal_number r.refusal

abbrev pub detail_of : Outcome → ℕ
detail_of (Ok _) = 0
detail_of (Err r) = r.detail

unfoldable pub is_accepted : Outcome → Bool
is_accepted (Ok _) = true
is_accepted (Err r) = false

-- One link of a chain: the refusal where its test passes, and else what the links after it say.
unfoldable pub refuse : Bool → Refusal → (detail : ℕ) → (rest : Outcome) → Outcome
refuse true why detail rest = Refused why detail
refuse false why detail rest = rest

-- ---- the column "Given exactly when"

-- 1 "w or m outside the ruler's bounds"; T-09: "a bad lo, hi or m gets 1"
unfoldable pub out_of_bounds : Scale → Bool
out_of_bounds s = not s.good

-- 2 "build: words not a multiple of 3, or over 4,096 rows; add: 4,096 trips already"; T-07: "Rows and entries become four words, so 2's multiple is 4"
unfoldable pub bad_size : (table : List ℕ) → Bool
bad_size table = not (eqb (length table % entry_words) 0) || ltb most_trips (length table / entry_words)

unfoldable pub full : List Trip → Bool
full ts = leb most_trips (length ts)

-- 3 "directory length isn't 4P + 2"
unfoldable pub bad_directory : Scale → (length : ℕ) → Bool
bad_directory s n = not (eqb n (directory_length s.m))

-- 4 "a start or end is 2^w or more"; T-09: "Times outside lo..hi get 4"
unfoldable pub off_ruler : Scale → (start end : Time) → Bool
off_ruler s start end = not (s.has start && s.has end)

-- 5 "start > end"
unfoldable pub backward : (start end : Time) → Bool
backward start end = before end start

-- 6 "build: id equals an earlier row's; add: id present"
unfoldable pub has_id : (id : ℕ) → List Trip → Bool
has_id i [] = false
has_id i (t ∷ ts) = eqb t.id i || has_id i ts

-- 7 "entries need more words than an arena has"
unfoldable pub no_room : Scale → List Trip → Lengths → Bool
no_room s ts n =
    ltb n.originals (entry_words * length (entries s Originals ts)) || ltb n.replicas (entry_words * length (entries s Replicas ts))

-- 7 "or matches exceed the answer list (detail: the matches)"
unfoldable pub exceeds : (matches room : ℕ) → Bool
exceeds matches room = ltb room matches

-- 9 "relationship code above 13"
unfoldable pub no_such_code : (code : ℕ) → Bool
no_such_code code = ltb last_code code

-- 12 "level above m, partition past the level, or subdivision above 3"
unfoldable pub no_such_slot : Scale → (L i subdivision : ℕ) → Bool
no_such_slot s L i d = ltb s.m L || (leb (partitions_at L) i || ltb last_subdivision d)

-- 16 "for a word of zero" (T-07): `never_runs`

-- 17 "for a day above 31" (T-07)
unfoldable pub no_such_day : (day : ℕ) → Bool
no_such_day day = ltb last_day day

-- ---- "Order."

-- 4 and 5, of a trip or of a window
unfoldable pub time_tests : Scale → (start end : Time) → (detail : ℕ) → Outcome → Outcome
time_tests s start end d rest =
    refuse (off_ruler s start end) OffRuler d
    (refuse (backward start end) Backward d rest)

-- times that pass both: the test, and what is known where it passes
unfoldable pub on_ruler : Scale → (start end : Time) → Bool
on_ruler s start end = is_accepted (time_tests s start end 0 Accepted)

pub record OnRuler (s : Scale) (start end : Time) : Type 0 where
  pub starts : T (s.has start)
  pub ends : T (s.has end)
  pub ordered : start.0 ≤ end.0

-- a trip that passes 4, 5 and 16, which ask for nothing but the trip: the test, and what is known where it passes
unfoldable pub fits : Scale → Trip → Bool
fits s t = on_ruler s t.start t.end && not (never_runs t)

pub record Fits (s : Scale) (t : Trip) : Type 0 where
  pub times : OnRuler s t.start t.end
  pub runs : T (not (never_runs t))

-- "within it 4, 5, 6", and T-07: 16 "after 6": one row, by whether its id is taken; and beside the trips that are there
unfoldable pub row_tests_by : Scale → (taken : Bool) → Trip → (detail : ℕ) → Outcome → Outcome
row_tests_by s taken t d rest =
    time_tests s t.start t.end d
    (refuse taken IdTaken d
    (refuse (never_runs t) NoDays d rest))

unfoldable pub row_tests : Scale → (there : List Trip) → Trip → (detail : ℕ) → Outcome → Outcome
row_tests s there t d rest = row_tests_by s (has_id t.id there) t d rest

-- "then the first bad row decides, within it 4, 5, 6, detail the row from 0": the rows from row k on, after the earlier ones
unfoldable pub first_bad_row : Scale → (k : ℕ) → (earlier ts : List Trip) → Outcome → Outcome
first_bad_row s k earlier [] rest = rest
first_bad_row s k earlier (t ∷ ts) rest = row_tests s earlier t k (first_bad_row s (suc k) (t ∷ earlier) ts rest)

-- "Build: 1, 2, 3; then the first bad row decides, ..; then 7."
unfoldable pub build_outcome : Scale → (table : List ℕ) → Lengths → Outcome
build_outcome s table n =
    refuse (out_of_bounds s) RulerOutOfBounds 0
    (refuse (bad_size table) TableSize 0
    (refuse (bad_directory s n.directory) DirectoryLength 0
    (first_bad_row s 0 [] (rows table)
    (refuse (no_room s (rows table) n) NoRoom 0 Accepted))))

-- 8 "directory and arenas aren't the index of any table for this ruler and these lengths (a table means one that build accepts)": words that are
-- the index of this table, and of some table
pub record IndexOf (s : Scale) (table : List ℕ) (x : Index) : Type 0 where
  pub accepted : build_outcome s table (lengths_of x) ≡ Accepted
  pub words_are : x ≡ layout s (rows table) (lengths_of x)

pub record IndexOfSome (s : Scale) (x : Index) : Type 0 where
  pub table : List ℕ
  pub its_index : IndexOf s table x

-- The test of 8 computes. It reads the trips off the originals arena, as many as the last word of the originals half says, and compares: it
-- passes exactly where some table that build accepts gives these words (the laws `index_of_some` and `some-index`).
unfoldable pub table_of : Scale → Index → List Trip
table_of s x = take (get_or x.directory (2 * partitions s.m) 0) (rows x.originals)

unfoldable pub same_index : Index → Index → Bool
same_index x y = same x.directory y.directory && (same x.originals y.originals && same x.replicas y.replicas)

-- build accepts the table for these lengths, and gives these words
unfoldable pub gives : Scale → Index → List Trip → Bool
gives s x ts = is_accepted (build_outcome s (words ts) (lengths_of x)) && same_index x (layout s ts (lengths_of x))

unfoldable pub is_index : Scale → Index → Bool
is_index s x = gives s x (table_of s x)

-- "1, 3": the ruler, and the length of the directory, then the rest of a chain
unfoldable pub frame_tests : Scale → (directory : ℕ) → Outcome → Outcome
frame_tests s n rest =
    refuse (out_of_bounds s) RulerOutOfBounds 0
    (refuse (bad_directory s n) DirectoryLength 0 rest)

-- "1, 3, 8": what each call on an index begins with, then the rest of its chain
unfoldable pub index_tests : Scale → Index → Outcome → Outcome
index_tests s x rest =
    refuse (out_of_bounds s) RulerOutOfBounds 0
    (refuse (bad_directory s (length x.directory)) DirectoryLength 0
    (refuse (not (is_index s x)) NotAnIndex 0 rest))

-- "Add: 1, 3, 8, 2, 4, 5, 6, 7", with 16 after 6
unfoldable pub add_outcome : Scale → Index → Trip → Outcome
add_outcome s x t =
    index_tests s x
    (refuse (full (table_of s x)) TableSize 0
    (row_tests s (table_of s x) t 0
    (refuse (no_room s (t ∷ table_of s x) (lengths_of x)) NoRoom 0 Accepted)))

-- "Remove: 1, 3, 8, 10."
unfoldable pub remove_outcome : Scale → Index → (id : ℕ) → Outcome
remove_outcome s x i = index_tests s x (refuse (not (has_id i (table_of s x))) NoSuchId 0 Accepted)

-- 4 and 5 of a window, and 17 of a day, "after 5 and before 7"
unfoldable pub window_tests : Scale → Window → (day : ℕ) → Outcome → Outcome
window_tests s w day rest =
    time_tests s w.start w.end 0
    (refuse (no_such_day day) NoSuchDay 0 rest)

-- 9, 4, 5, 17: a question as it is put
unfoldable pub question_tests : Scale → Asking → Outcome → Outcome
question_tests s q rest = refuse (no_such_code q.code) NoRelationship 0 (window_tests s q.window q.day rest)

-- 7 "or matches exceed the answer list (detail: the matches)"

unfoldable pub room_test : (matches room : ℕ) → Outcome
room_test matches room = refuse (exceeds matches room) NoRoom matches Accepted

-- "Question: 1, 3, 8, 9, 4, 5, 7", with 17 after 5
unfoldable pub ask_outcome : Scale → Index → Asking → (room : ℕ) → Outcome
ask_outcome s x q room = index_tests s x (question_tests s q (room_test (length (answer_to q (table_of s x))) room))

-- "Run: 1, 3, 8, 12."
unfoldable pub run_outcome : Scale → Index → (L i subdivision : ℕ) → Outcome
run_outcome s x L i d = index_tests s x (refuse (no_such_slot s L i d) NoSuchSlot 0 Accepted)

-- "Census: 1, 3, 8." The check of an index has no order of its own in the document; it is the same.
unfoldable pub check_outcome : Scale → Index → Outcome
check_outcome s x = index_tests s x Accepted
