-- A trip, a window and a question made of the words that a caller, a row or an entry has for them; and the days of a trip (document 02, T-07).
use Rattle.std.specs.Prelude.{Bool, not, ◌&&◌, ℕ, ◌/◌, ◌%◌, ◌^◌, eqb}
use Rattle.std.specs.Int.Bits.{bit_and}
use Rattle.ruler.specs.Ruler.{time_at, same_time}
use Rattle.trip.specs.declared.Trip.{Trip}
use Rattle.trip.specs.declared.Window.{Window}
use Rattle.trip.specs.declared.Asking.{Asking}

-- "id, start, end", and "a fourth word": its days
abbrev pub trip_of : (id start end days : ℕ) → Trip
trip_of id start end days = record { id = id; start = time_at start; end = time_at end; days = days }

-- two trips with the same words
unfoldable pub same_trip : Trip → Trip → Bool
same_trip t u =
    eqb t.id u.id && (same_time t.start u.start && (same_time t.end u.end && eqb t.days u.days))

-- "a bit for each of days 0 to 31"
abbrev pub last_day : ℕ
last_day = 31

-- "only trips whose bit is set": the bit of day d counts 2^d
unfoldable pub runs_on : (day : ℕ) → Trip → Bool
runs_on d t = eqb (t.days / 2 ^ d % 2) 1

-- a bit is set in these days too (for one day's bit it is that day's: the law `runs_bit`)
unfoldable pub runs_on_any : (days : ℕ) → Trip → Bool
runs_on_any days t = not (eqb (bit_and t.days days) 0)

-- no bit is set
unfoldable pub never_runs : Trip → Bool
never_runs t = eqb t.days 0

abbrev pub window_of : (start end : ℕ) → Window
window_of start end = record { start = time_at start; end = time_at end }

-- a question as it is put, not yet judged: a code, which may name nothing, a window, which may be off the ruler, and a day, which may be none
abbrev pub asking_of : (code start end day : ℕ) → Asking
asking_of code start end day = record { code = code; window = window_of start end; day = day }
