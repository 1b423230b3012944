-- Document 01, "Checked examples": the starred ones, in one list of statements, and after them those of document 02, T-09 and T-07. That all of
-- them hold is one statement (proofs/Starred.antt). The others are run by the program `cases`.
use Rattle.std.specs.Prelude.{◌≡◌, Bool, not, List, [], ◌∷◌, ℕ, ◌*◌, ◌≤◌, T, length, replicate}
use Rattle.lists.specs.Lists.{over}
use Rattle.ruler.specs.declared.Numbers.TheVariants.{Spread}
use Rattle.ruler.specs.Ruler.{Scale, time_at, scale_of, numbers_of}
use Rattle.trip.specs.declared.Trip.{Trip}
use Rattle.trip.specs.declared.Relationship.{Relationship}
use Rattle.trip.specs.declared.Relationship.TheVariants.{Overlaps, Contains, Before, After, GOverlaps}
use Rattle.trip.specs.Relationships.{code_of}
use Rattle.trip.specs.Trips.{trip_of, window_of, asking_of}
use Rattle.layout.specs.declared.Subdivision.{Subdivision}
use Rattle.layout.specs.declared.Subdivision.TheVariants.{OIn, OAft, RIn, RAft}
use Rattle.layout.specs.Outcomes.{Outcome, Accepted}
use Rattle.layout.specs.Stored.{belongs}
use Rattle.layout.specs.Words.{entry_words, Index, Lengths, words, directory_length, partitions_holding, layout}
use Rattle.layout.specs.Refusals.{number_of, detail_of, full, build_outcome, window_tests, ask_outcome, check_outcome}
use Rattle.layout.specs.Calls.{build_of, asked, ask_of}

-- ---- "document 01's cases are run with every bit set and day 0" (T-07)

unfoldable pub every_day : ℕ
every_day = 4294967295

unfoldable pub daily : (id start end : ℕ) → Trip
daily i s e = trip_of i s e every_day

unfoldable pub day_zero : ℕ
day_zero = 0

-- ---- "Ruler w = 6, m = 4; trips 7 [21,38], 3 [20,20], 9 [0,63], 4 [39,40]."

unfoldable pub ruler : (w m : ℕ) → Scale
ruler w m = scale_of (numbers_of w m)

unfoldable pub seven : Trip
seven = daily 7 21 38

unfoldable pub three : Trip
three = daily 3 20 20

unfoldable pub nine : Trip
nine = daily 9 0 63

unfoldable pub four : Trip
four = daily 4 39 40

-- their index, in arenas for four originals and eight replicas
unfoldable pub the_index : Index
the_index = layout (ruler 6 4) (seven ∷ three ∷ nine ∷ four ∷ []) (record { directory = directory_length 4; originals = 4 * entry_words; replicas = 8 * entry_words })

-- ---- the statements

-- on a ruler the trip's cells at level m are a..b
unfoldable pub cells : Scale → Trip → (a b : ℕ) → Type 0
cells s t a b = (s.cell t.start ≡ a) × (s.cell t.end ≡ b)

-- the trip has an entry in partition i of level L, under this subdivision; and n entries in all
unfoldable pub stored : Scale → Trip → (L i : ℕ) → Subdivision → Type 0
stored s t L i d = T (belongs s d L i t)

unfoldable pub in_all : Scale → Trip → (n : ℕ) → Type 0
in_all s t n = partitions_holding s t ≡ n

-- an outcome is this number with this detail
unfoldable pub is : Outcome → (number detail : ℕ) → Type 0
is o number detail = (number_of o ≡ number) × (detail_of o ≡ detail)

-- a question to the index, with room for four ids, is accepted and lists these; the words after them stay
unfoldable pub lists : Relationship → (start end : ℕ) → (ids : List ℕ) → Type 0
lists r s e ids =
    ask_of (ruler 6 4) the_index (asking_of (code_of r) s e day_zero) (replicate 4 100) ≡ asked Accepted (length ids) (over ids (replicate 4 100))

-- a question under code 13, with room for four ids, gives this number
unfoldable pub refuses : (start end number : ℕ) → Type 0
refuses s e n = is (ask_outcome (ruler 6 4) the_index (asking_of (code_of GOverlaps) s e day_zero) 4) n 0

-- ---- "w = 18, m = 10: 23:40:00 to 25:10:00 is [85200,90600]"

unfoldable pub night : Trip
night = daily 1 85200 90600

-- a question under code 13 to the index that a build of this one trip has left, in whatever buffers: with room for the ids it is accepted and
-- lists these (the directory alone has 8,190 words: the statement speaks of every index, and lays none out)
unfoldable pub night_lists : (start end : ℕ) → (ids : List ℕ) → Type 0
night_lists s e ids =
    (x : Index) (list : List ℕ) → (build_of (ruler 18 10) (words (night ∷ [])) x).outcome ≡ Accepted → length ids ≤ length list
    → ask_of (ruler 18 10) (build_of (ruler 18 10) (words (night ∷ [])) x).words (asking_of (code_of GOverlaps) s e day_zero) list
    ≡ asked Accepted (length ids) (over ids list)

-- a trip as the only row of a table, and a window with these times
unfoldable pub as_row : Scale → Trip → Outcome
as_row s t = build_outcome s (words (t ∷ [])) (record { directory = directory_length s.m; originals = entry_words; replicas = 20 * entry_words })

unfoldable pub as_window : (start end : ℕ) → Outcome
as_window s e = window_tests (ruler 18 10) (window_of s e) day_zero Accepted

-- ---- the second ruler: a service day from 4:00 to 28:00 with 16 cells, so that 5,760 seconds make a cell and only 28:00:00 is in the last

unfoldable pub spread : (m lo hi : ℕ) → Scale
spread m lo hi = scale_of (Spread m lo hi)

unfoldable pub service : Scale
service = spread 4 14400 100800

-- 8:00 to 20:30: (28800 − 14400) × 15 / 86400 is 2 and a half, (73800 − 14400) × 15 / 86400 is 10 and five sixteenths
unfoldable pub daytime : Trip
daytime = daily 2 28800 73800

-- ---- T-07: three trips at the same times, on days 0 to 4 (1 + 2 + 4 + 8 + 16), on days 5 and 6 (32 + 64) and on day 31 alone

unfoldable pub weekdays : Trip
weekdays = trip_of 5 20 40 31

unfoldable pub weekend : Trip
weekend = trip_of 6 20 40 96

unfoldable pub last_of_all : Trip
last_of_all = trip_of 8 20 40 2147483648

-- rows of a table, in arenas for four originals and sixteen replicas; and their index
unfoldable pub roomy : Lengths
roomy = record { directory = directory_length 4; originals = 4 * entry_words; replicas = 16 * entry_words }

unfoldable pub as_rows : List Trip → Outcome
as_rows ts = build_outcome (ruler 6 4) (words ts) roomy

unfoldable pub index_of : List Trip → Index
index_of ts = layout (ruler 6 4) ts roomy

-- a question to the index of the three under code 13 at 30, with room for two ids, lists these on a day
unfoldable pub on_day : (day : ℕ) → (ids : List ℕ) → Type 0
on_day d ids =
    ask_of (ruler 6 4) (index_of (weekdays ∷ weekend ∷ last_of_all ∷ [])) (asking_of (code_of GOverlaps) 30 30 d) (replicate 2 100)
    ≡ asked Accepted (length ids) (over ids (replicate 2 100))

-- a question to it, with no room at all, gives this number and detail
unfoldable pub on_no_day : (code start end day number detail : ℕ) → Type 0
on_no_day c s e d n detail = is (ask_outcome (ruler 6 4) (index_of (weekdays ∷ weekend ∷ last_of_all ∷ [])) (asking_of c s e d) 0) n detail

-- ---- the starred examples

-- every statement of a list holds
pub data AllHold : List (Type 0) → Type 1 where
  none : AllHold []
  more : {statement : Type 0} {l : List (Type 0)} → statement → AllHold l → AllHold (statement ∷ l)

unfoldable pub starred : List (Type 0)
starred =
    -- "Trip 7 has cells 5..9 (000, 003): level 4 partition 5 O_aft; level 3 partition 3 R_aft, partition 4 R_in."
    cells (ruler 6 4) seven 5 9
    ∷ stored (ruler 6 4) seven 4 5 OAft
    ∷ stored (ruler 6 4) seven 3 3 RAft
    ∷ stored (ruler 6 4) seven 3 4 RIn
    ∷ in_all (ruler 6 4) seven 3
    -- "Trip 3: level 4 partition 5 O_in." "Trip 9: level 0 O_in." "Trip 4: level 4 partition 9 O_aft, 10 R_in."
    ∷ stored (ruler 6 4) three 4 5 OIn
    ∷ in_all (ruler 6 4) three 1
    ∷ stored (ruler 6 4) nine 0 0 OIn
    ∷ in_all (ruler 6 4) nine 1
    ∷ stored (ruler 6 4) four 4 9 OAft
    ∷ stored (ruler 6 4) four 4 10 RIn
    ∷ in_all (ruler 6 4) four 2
    -- "Code 13 [22,23]: 7, 9. Trip 3 shares the cell and is not listed."
    ∷ lists GOverlaps 22 23 (7 ∷ 9 ∷ [])
    ∷ cells (ruler 6 4) three 5 5
    ∷ ((ruler 6 4).cell (time_at 22) ≡ 5)
    -- "Code 13 [38,39]: 4, 7, 9." "BEFORE [0,20]: 4, 7." "AFTER [39,63]: 3, 7."
    ∷ lists GOverlaps 38 39 (4 ∷ 7 ∷ 9 ∷ [])
    ∷ lists Before 0 20 (4 ∷ 7 ∷ [])
    ∷ lists After 39 63 (3 ∷ 7 ∷ [])
    -- "CONTAINS [19,39]: 3, 7." "OVERLAPS [18,30]: 7."
    ∷ lists Contains 19 39 (3 ∷ 7 ∷ [])
    ∷ lists Overlaps 18 30 (7 ∷ [])
    -- "A window [64,3] gives 4 and not 5; [40,39] gives 5; 63 is the last time allowed."
    ∷ refuses 64 3 4
    ∷ refuses 40 39 5
    ∷ refuses 63 63 0
    ∷ refuses 63 64 4
    -- "w = 18, m = 10: 23:40:00 to 25:10:00 is [85200,90600], found by [88200,88800] and not by [1800,2400]. Wrapped, [85200,4200] gives 5."
    ∷ is (as_row (ruler 18 10) night) 0 0
    ∷ night_lists 88200 88800 (1 ∷ [])
    ∷ night_lists 1800 2400 []
    ∷ is (as_row (ruler 18 10) (daily 1 85200 4200)) 5 0
    ∷ is (as_window 85200 4200) 5 0
    -- T-09: lo and hi are on the ruler, and hi alone has the last cell
    ∷ cells service (daily 1 14400 100800) 0 15
    ∷ cells service (daily 1 14401 100799) 0 14
    ∷ is (as_row service (daily 1 14400 100800)) 0 0
    -- "Times outside lo..hi get 4"
    ∷ is (as_row service (daily 1 14399 100800)) 4 0
    ∷ is (as_row service (daily 1 14400 100801)) 4 0
    -- "a bad lo, hi or m gets 1": lo = hi
    ∷ is (as_row (spread 4 14400 14400) (daily 1 14400 14400)) 1 0
    -- hi = 2^24, and the last hi allowed
    ∷ is (as_row (spread 4 14400 16777216) night) 1 0
    ∷ is (as_row (spread 4 14400 16777215) night) 0 0
    -- the night trip has the cells 12 and 13, which are one partition of level 3; the one from 8:00 to 20:30 has the cells 2..10
    ∷ cells service night 12 13
    ∷ stored service night 3 6 OIn
    ∷ in_all service night 1
    ∷ cells service daytime 2 10
    ∷ stored service daytime 3 1 OAft
    ∷ stored service daytime 2 1 RAft
    ∷ stored service daytime 3 4 RAft
    ∷ stored service daytime 4 10 RIn
    ∷ in_all service daytime 4
    -- "the words carry none, and 8 is judged for that ruler": the words of the first examples, under the ruler that spreads 16 cells over the same times
    ∷ is (check_outcome (ruler 6 4) the_index) 0 0
    ∷ is (check_outcome (spread 4 0 63) the_index) 8 0
    -- T-07: "only trips whose bit is set are listed"
    ∷ on_day 0 (5 ∷ [])
    ∷ on_day 4 (5 ∷ [])
    ∷ on_day 5 (6 ∷ [])
    ∷ on_day 6 (6 ∷ [])
    ∷ on_day 7 []
    ∷ on_day 31 (8 ∷ [])
    -- "17 for a day above 31, after 5 and before 7"; the detail of 7 counts those of the day
    ∷ on_no_day 13 30 30 32 17 0
    ∷ on_no_day 13 30 30 6 7 1
    ∷ on_no_day 13 40 39 32 5 0
    ∷ on_no_day 13 64 3 32 4 0
    ∷ on_no_day 14 30 30 32 9 0
    -- "16 for a word of zero, after 6"
    ∷ is (as_rows (weekdays ∷ weekend ∷ [])) 0 0
    ∷ is (as_rows (weekdays ∷ trip_of 6 20 40 0 ∷ [])) 16 1
    ∷ is (as_rows (weekdays ∷ trip_of 5 20 40 0 ∷ [])) 6 1
    ∷ is (as_rows (trip_of 6 40 20 0 ∷ [])) 5 0
    -- an entry without a day is no table's
    ∷ is (check_outcome (ruler 6 4) (index_of (weekdays ∷ weekend ∷ []))) 0 0
    ∷ is (check_outcome (ruler 6 4) (index_of (weekdays ∷ trip_of 6 20 40 0 ∷ []))) 8 0
    ∷ []

-- 2 "add: 4,096 trips already": tables of 4,095 and of 4,096 trips
unfoldable pub fullness : List Bool
fullness = not (full (replicate 4095 three)) ∷ full (replicate 4096 three) ∷ []
