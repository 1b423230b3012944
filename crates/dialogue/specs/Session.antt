-- Document 01, the session program: what a line does and what is written for it.
use Rattle.std.specs.Prelude.{◌≡◌, Option, Some, None, is_some, Bool, true, false, cond, ◌||◌, List, [], ◌∷◌, ◌++◌, ℕ, ◌+◌, ◌*◌, ◌≤◌, ltb, length, take, replicate}
use Rattle.std.specs.Bool.{then_some}
use Rattle.std.specs.Option.{option_map_or}
use Rattle.std.proofs.lemmas.List.Edits.{sets}
use Rattle.ruler.specs.declared.Numbers.{Numbers}
use Rattle.ruler.specs.Ruler.{scale_of, bottom_of, numbers_of}
use Rattle.trip.specs.declared.Trip.{Trip}
use Rattle.trip.specs.declared.Asking.{Asking}
use Rattle.trip.specs.Trips.{trip_of, asking_of}
use Rattle.layout.specs.Words.{entry_words, directory_length, Index}
use Rattle.lists.specs.Lists.{over}
use Rattle.layout.specs.Refusals.{is_accepted}
use Rattle.layout.specs.Calls.{index, After, Asked, build_of, add_of, remove_of, ask_of}
use Rattle.text.specs.declared.Command.{Command}
use Rattle.text.specs.declared.Command.TheVariants.{Ruler, Add, Remove, Ask}
use Rattle.text.specs.Lines.{lines_of}
use Rattle.text.specs.Command.{command_of}
use Rattle.dialogue.specs.declared.Turned.{Turned}
use Rattle.dialogue.specs.Reply.{most_digits, outcome_bytes, answer_bytes, bad_line_bytes, as_line, short_reply}

-- "D w m (m at most 8)"
abbrev pub deepest_here : ℕ
deepest_here = 8

-- "Its arenas hold 256 originals and 3,328 replicas and its answer list 256 ids"
abbrev pub most_originals : ℕ
most_originals = 256

abbrev pub most_replicas : ℕ
most_replicas = 3328

abbrev pub most_answers : ℕ
most_answers = 256

-- no line that is written is longer: a count, and each of the ids after a space
abbrev pub most_reply : ℕ
most_reply = short_reply + (most_digits + 1) * most_answers

-- all that the session keeps: the ruler that an accepted D line named, the words lent to the index, and the answer list
pub record State : Type 0 where
  pub desk : Option Numbers
  pub words : Index
  pub answers : List ℕ

abbrev pub state : Option Numbers → Index → (answers : List ℕ) → State
state d x l = record { desk = d; words = x; answers = l }

-- what a line does: the state after it, what is written, and whether the next line is read
pub record Turn : Type 0 where
  pub next : State
  pub writes : List ℕ
  pub goes_on : Bool

-- the index of a ruler in the words lent: its directory is as long as the ruler asks
unfoldable pub shown : Numbers → Index → Index
shown n x = index (take (directory_length (bottom_of n)) x.directory) x.originals x.replicas

-- the words lent, with that index written back
unfoldable pub written_back : Index → Index → Index
written_back y x = index (over y.directory x.directory) y.originals y.replicas

-- "a malformed line writes "bad line" and ends it"
unfoldable pub bad_line : State → Turn
bad_line s = record { next = s; writes = as_line bad_line_bytes; goes_on = false }

-- "A D line that is refused ends it too": the index of an empty table for that ruler
unfoldable pub opened : State → Numbers → Turn
opened s n =
    let a = build_of (scale_of n) [] (shown n s.words) in
    record {
      next = state (then_some (is_accepted a.outcome) n) (written_back a.words s.words) s.answers;
      writes = as_line (outcome_bytes a.outcome);
      goes_on = is_accepted a.outcome;
    }

-- ""ok", "refused" and the number"
unfoldable pub edited : State → After → Turn
edited s a = record {
  next = state s.desk (written_back a.words s.words) s.answers;
  writes = as_line (outcome_bytes a.outcome);
  goes_on = true;
}

-- "for Q the count and the ids, one space between"
unfoldable pub answered : State → Asked → Turn
answered s a = record {
  next = state s.desk s.words a.answers;
  writes = as_line (answer_bytes a.outcome (take a.count a.answers));
  goes_on = true;
}

-- "T id st end to add, X id to remove, Q code st end", with T-07: "In the session T and Q take one number more, last"; each in the index of
-- the session's ruler
abbrev pub added : State → Numbers → Trip → Turn
added s n t = edited s (add_of (scale_of n) (shown n s.words) t)

abbrev pub removed : State → Numbers → (id : ℕ) → Turn
removed s n i = edited s (remove_of (scale_of n) (shown n s.words) i)

abbrev pub questioned : State → Numbers → Asking → Turn
questioned s n q = answered s (ask_of (scale_of n) (shown n s.words) q s.answers)

-- a line that is only for an open session: "a T, X or Q before D is malformed"
abbrev pub when_open : State → (Numbers → Turn) → Turn
when_open s turn = option_map_or turn s.desk (bad_line s)

-- what a line means does; "m above 8 is a malformed line", and so is "a second D"
unfoldable pub turn_of : State → Option Command → Turn
turn_of s None = bad_line s
turn_of s (Some (Ruler w m)) = cond (is_some s.desk || ltb deepest_here m) (bad_line s) (opened s (numbers_of w m))
turn_of s (Some (Add i st end days)) = when_open s (λ n. added s n (trip_of i st end days))
turn_of s (Some (Remove i)) = when_open s (λ n. removed s n i)
turn_of s (Some (Ask c st end day)) = when_open s (λ n. questioned s n (asking_of c st end day))

-- The whole session: what is written for the lines, one after another, until one ends it.
unfoldable pub writes_for : State → List (List ℕ) → List ℕ
writes_for s [] = []
writes_for s (line ∷ lines) = let t = turn_of s (command_of line) in t.writes ++ cond t.goes_on (writes_for t.next lines) []

-- at the start: nothing is open, and all words lent are 0
unfoldable pub start : State
start =
    state None
    (index (replicate (directory_length deepest_here) 0) (replicate (entry_words * most_originals) 0) (replicate (entry_words * most_replicas) 0))
    (replicate most_answers 0)

unfoldable pub session_of : (input : List ℕ) → List ℕ
session_of input = writes_for start (lines_of input)

abbrev pub turned : Option Numbers → (written : ℕ) → (more : Bool) → Turned
turned d n b = record { desk = d; written = n; more = b }

-- what a turn of the code left is what the turn t says, and all that is written has room
pub record Done (t : Turn) (r : Turned) (x : Index) (answers reply₀ reply : List ℕ) : Type 0 where
  pub next : state r.desk x answers ≡ t.next
  pub goes : r.more ≡ t.goes_on
  pub count : r.written ≡ length t.writes
  pub fits : r.written ≤ length reply₀
  pub bytes : reply ≡ sets reply₀ 0 t.writes

-- a ruler whose deepest level a session may have
abbrev pub InSession : Numbers → Type 0
InSession n = bottom_of n ≤ deepest_here

-- the words lent have room for a turn: the directory for every ruler of the session, and the reply for a line that lists no ids
abbrev pub Room : (directory reply : List ℕ) → Type 0
Room directory reply = (directory_length deepest_here ≤ length directory) × (short_reply ≤ length reply)

-- and for a question, the reply for every list of answers
abbrev pub RoomToAnswer : (directory answers reply : List ℕ) → Type 0
RoomToAnswer directory answers reply =
    (directory_length deepest_here ≤ length directory) × (length answers ≤ most_answers) × (most_reply ≤ length reply)
