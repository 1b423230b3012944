-- Any split of the input into chunks writes what the session says: feeding them one after another, and then ending.
-- Assumes nothing.
use mathlib.Core.Path.{◌≡◌, refl, sym, ap, ◌∙◌}
use mathlib.Core.Bool.{Bool, true, false, cond}
use mathlib.Core.List.{List, [], ◌∷◌, ◌++◌, append_assoc, append-nil, flatten}
use Prim.Native.Nat.{ℕ, zero, suc}
use native.Mathlib.Omega.{arith}
use borrow.Author.Tests.{lt-ltb}
use lib.Dec.{eqb}
use lib.ListN.{length, take}
use Rattle.layout.specs.Words.{Index}
use Rattle.text.specs.Bytes.{newline}
use Rattle.text.specs.Command.{command_of}
use Rattle.text.specs.Lines.{unless_empty, lines_of}
use Rattle.text.proofs.LineSteps.{lines_after, after_nothing, after_all, after-newline, after_byte}
use Rattle.dialogue.specs.Session.{State, state, Turn, turn_of, writes_for, start, session_of}
use Rattle.feeding.specs.Line.{line_kept}
use Rattle.feeding.specs.Feeding.{Held, held, Feed, leaving, begun, line_done, byte_kept, byte_of, feed_of, end_of, run_of, Reached}
use Rattle.dialogue.proofs.SessionTurns.{cut_turn}

-- ---- Chunks one after another

pub feed_append : (h : Held) (a b : List ℕ)
    → feed_of h (a ++ b) ≡ (let f = feed_of h a in let g = feed_of f.after b in leaving g.after (f.writes ++ g.writes))
unfolding feed_of
feed_append h [] b = refl
feed_append h (x ∷ a) b =
    let f = byte_of h x in
    rw (feed_append f.after a b, append_assoc)

-- what is held at the start was reached, and so is what a chunk more leaves
pub reached_start : (x : Index) (l : List ℕ) {h : Held} → h ≡ held (state start.desk x l) [] true → state start.desk x l ≡ start → Reached h
unfolding begun feed_of
reached_start x l e words = ([], e ∙ ap (λ (s : State). held s [] true) words)

pub reached_more : {h h' : Held} (chunk : List ℕ) → Reached h → h' ≡ (feed_of h chunk).after → Reached h'
reached_more chunk (input, e) more =
    (input ++ chunk, more ∙ ap (λ (y : Held). (feed_of y chunk).after) e ∙ ap (λ (f : Feed). f.after) (sym (feed_append begun input chunk)))

-- what is written for an input and its end
abbrev written : Held → (input : List ℕ) → List ℕ
written h input = (feed_of h input).writes ++ (end_of (feed_of h input).after).writes

run_together : (h : Held) (chunks : List (List ℕ)) → run_of h chunks ≡ written h (flatten chunks)
unfolding run_of flatten feed_of
run_together h [] = refl
run_together h (c ∷ cs) = rw (feed_append h c (flatten cs), append_assoc, run_together (feed_of h c).after cs)

-- ---- The whole input

-- once a line has ended the session, nothing is written
nothing_more : (s : State) (l input : List ℕ) → written (held s l false) input ≡ []
unfolding feed_of byte_of end_of
nothing_more s l [] = refl
nothing_more s l (b ∷ input) = nothing_more s l input

-- what is kept of a line, with one byte more, is what is kept of the longer line
kept_more : (l : List ℕ) (b : ℕ) → take line_kept (take line_kept l ++ (b ∷ [])) ≡ take line_kept (l ++ (b ∷ []))
kept_more l b = go line_kept l
  where
    go : (k : ℕ) (l : List ℕ) → take k (take k l ++ (b ∷ [])) ≡ take k (l ++ (b ∷ []))
    go zero l = refl
    go (suc k) [] = refl
    go (suc k) (x ∷ l) = ap (λ (m : List ℕ). x ∷ m) (go k l)

-- the turn of what is kept of a line is the line's
kept_turn : (s : State) (l : List ℕ) → turn_of s (command_of (take line_kept l)) ≡ turn_of s (command_of l)
kept_turn s l = cut_turn s l line_kept (omega arith)

-- at the end of the input: the last line, unless it is empty
last_line : (s : State) (l : List ℕ) → (end_of (held s (take line_kept l) true)).writes ≡ writes_for s (unless_empty l)
unfolding end_of line_done writes_for
last_line s [] = refl
last_line s (b ∷ l) = rw (lt-ltb 0 (length (take line_kept (b ∷ l))) (omega arith), kept_turn s (b ∷ l)) (go (turn_of s (command_of (b ∷ l))))
  where
    go : (t : Turn) → t.writes ≡ t.writes ++ cond t.goes_on [] []
    go t = done t.goes_on
      where
        done : (b : Bool) → t.writes ≡ t.writes ++ cond b [] []
        done true = sym (append-nil t.writes)
        done false = sym (append-nil t.writes)

-- the lines of an input, of whose first line l was read before
by_lines : (input : List ℕ) (s : State) (l : List ℕ) → written (held s (take line_kept l) true) input ≡ writes_for s (lines_after l input)
unfolding feed_of byte_of line_done byte_kept writes_for
by_lines [] s l = last_line s l ∙ rw after_all
by_lines (b ∷ input) s l = go (eqb b newline) refl (by_lines input)
  where
    t : Turn
    t = turn_of s (command_of l)

    next : (more : Bool) → ((s : State) (l : List ℕ) → written (held s (take line_kept l) true) input ≡ writes_for s (lines_after l input))
        → written (held t.next [] more) input ≡ cond more (writes_for t.next (lines_of input)) []
    next true ih = ih t.next [] ∙ rw after_nothing
    next false ih = nothing_more t.next [] input

    go : (e : Bool) → eqb b newline ≡ e
        → ((s : State) (l : List ℕ) → written (held s (take line_kept l) true) input ≡ writes_for s (lines_after l input))
        → written (held s (take line_kept l) true) (b ∷ input) ≡ writes_for s (lines_after l (b ∷ input))
    go true e ih = rw (e, kept_turn s l, after-newline l b input e, append_assoc, next t.goes_on ih)
    go false e ih = rw (e, kept_more l b, after_byte l b input e) (ih s (l ++ (b ∷ [])))

-- THE LAW: however the input comes, what is written is what the session says of the whole of it
pub any-split : (chunks : List (List ℕ)) → run_of begun chunks ≡ session_of (flatten chunks)
unfolding begun session_of
any-split chunks = run_together (held start [] true) chunks ∙ by_lines (flatten chunks) start [] ∙ rw after_nothing
