-- Document 01, the session program: its input comes in chunks. What is held between two bytes of it, and what a byte, a chunk and the end do.
use Rattle.std.specs.Prelude.{◌≡◌, Bool, true, cond, ◌&&◌, List, [], ◌∷◌, ◌++◌, ℕ, ◌*◌, ◌≤◌, ltb, eqb, length, take, IfSome}
use Rattle.std.proofs.lemmas.List.Edits.{sets}
use Rattle.layout.specs.Words.{directory_length, Index}
use Rattle.text.specs.Bytes.{newline}
use Rattle.text.specs.Command.{command_of}
use Rattle.feeding.specs.Line.{line_kept}
use Rattle.feeding.specs.declared.line.Line.{Line}
use Rattle.feeding.specs.declared.Standing.{Standing}
use Rattle.feeding.specs.declared.Fed.{Fed}
use Rattle.dialogue.specs.Session.{deepest_here, most_answers, most_reply, State, state, turn_of, start, InSession}

-- between two bytes of the input: the session's state, what is kept of the line that has not ended, and whether the session goes on
pub record Held : Type 0 where
  pub keeps : State
  pub line : List ℕ
  pub goes_on : Bool

abbrev pub held : State → (line : List ℕ) → (goes_on : Bool) → Held
held s l b = record { keeps = s; line = l; goes_on = b }

-- what some of the input does: what is held after it, and what is written for it
pub record Feed : Type 0 where
  pub after : Held
  pub writes : List ℕ

abbrev pub leaving : Held → (writes : List ℕ) → Feed
leaving h l = record { after = h; writes = l }

-- before the first byte
unfoldable pub begun : Held
begun = held start [] true

-- a line has ended: its turn, and the next line begins
unfoldable pub line_done : Held → Feed
line_done h = let t = turn_of h.keeps (command_of h.line) in leaving (held t.next [] t.goes_on) t.writes

-- a byte of a line that goes on
unfoldable pub byte_kept : Held → ℕ → Feed
byte_kept h b = leaving (held h.keeps (take line_kept (h.line ++ (b ∷ []))) h.goes_on) []

-- "lines by one newline". Once a line has ended the session, no byte does anything
unfoldable pub byte_of : Held → ℕ → Feed
byte_of h b = cond h.goes_on (cond (eqb b newline) (line_done h) (byte_kept h b)) (leaving h [])

-- a chunk, byte after byte
unfoldable pub feed_of : Held → (chunk : List ℕ) → Feed
feed_of h [] = leaving h []
feed_of h (b ∷ chunk) =
    let f = byte_of h b in
    let g = feed_of f.after chunk in
    leaving g.after (f.writes ++ g.writes)

-- the end of the input. "one newline, which the last may lack": what is held is then the last line, and where nothing is, there is none
unfoldable pub end_of : Held → Feed
end_of h = cond (h.goes_on && ltb 0 (length h.line)) (line_done h) (leaving h [])

-- what is written for an input that comes in chunks, one after another, and then ends
unfoldable pub run_of : Held → (chunks : List (List ℕ)) → List ℕ
run_of h [] = (end_of h).writes
run_of h (chunk ∷ chunks) = let f = feed_of h chunk in f.writes ++ run_of f.after chunks

-- what is held once some input was fed from the start
abbrev pub Reached : Held → Type 0
Reached h = (input : List ℕ) × (h ≡ (feed_of begun input).after)

-- what the code keeps of a line
abbrev pub line_of : Line → List ℕ
line_of a = take a.len a.bytes

-- what the code holds, with the words lent
abbrev pub held_by : Standing → Index → (answers : List ℕ) → Held
held_by s x l = held (state s.desk x l) (line_of s.line) s.more

-- the ruler of the code, if any, is one of the session
-- it stays a fact beside the Standing: `begin`, and the theorem `begin_settled` of `demands`, promise it by this name
pub record Sound (s : Standing) : Type 0 where
  pub ruler : IfSome s.desk InSession

-- the words lent have room for n lines
pub record Ready (n : ℕ) (directory answers out : List ℕ) : Type 0 where
  pub whole : directory_length deepest_here ≤ length directory
  pub few : length answers ≤ most_answers
  pub room : most_reply * n ≤ length out

-- what the code left is what f says, and all that is written has room
pub record Left (f : Feed) (r : Fed) (x : Index) (answers out₀ out : List ℕ) : Type 0 where
  pub holds : held_by r.standing x answers ≡ f.after
  pub sound : Sound r.standing
  pub count : r.written ≡ length f.writes
  pub fits : r.written ≤ length out₀
  pub bytes : out ≡ sets out₀ 0 f.writes
