-- What a call left in the words lent, with what was written, is the turn of the definitions. The directory's front is lent to a call, as
-- long as the ruler asks, and comes back in its place.
-- Assumes nothing.
use Rattle.std.proofs.Common.{Err, Ok}
use mathlib.Core.Path.{◌≡◌, refl, ap, ◌∙◌}
use mathlib.Core.Bool.{Bool, true, false, cond, ◌||◌}
use mathlib.Core.List.{List, []}
use Prim.Native.Nat.{ℕ, ◌+◌, ◌-◌, ◌^◌, ◌≤◌, ◌<◌}
use native.Mathlib.Nat.{pow-le-pow_right}
use native.Mathlib.Omega.{arith}
use borrow.Author.Tests.{ltb-false}
use lib.Dec.{ltb, lit<}
use lib.ListN.{length, take, drop, length-append}
use borrow.Rule.Slice.PartMut.{mid_of, put_mid, mid_len}
use Rattle.lists.proofs.Lent.{head_lent, head_back}
use Rattle.ruler.specs.declared.Numbers.{Numbers}
use Rattle.ruler.specs.Ruler.{Scale, scale_of, bottom_of, numbers_of}
use Rattle.trip.specs.declared.Asking.{Asking}
use Rattle.std.specs.Prelude.{Option, Some, None, is_some, IfSome}
use Rattle.std.specs.Bool.{then_some}
use Rattle.std.specs.Option.{option_map_or}
use Rattle.layout.specs.Outcomes.{Outcome}
use Rattle.layout.specs.Words.{partitions, directory_length, Index}
use Rattle.layout.specs.Answers.{answer_to}
use Rattle.lists.specs.Lists.{over}
use Rattle.layout.specs.Refusals.{is_accepted, table_of, ask_outcome}
use Rattle.layout.specs.Calls.{index, After, after, Asked, asked, build_of, ask_of, if_accepted}
use Rattle.text.specs.declared.Command.{Command}
use Rattle.text.specs.declared.Command.TheVariants.{Ruler, Add, Remove, Ask}
use Rattle.text.specs.Command.{command_of, longest_line}
use Rattle.text.proofs.Longest.{cut_line}
use Rattle.dialogue.specs.declared.Turned.{Turned}
use Rattle.dialogue.specs.Reply.{outcome_bytes, answer_bytes, Wrote}
use Rattle.dialogue.specs.Session.{deepest_here, State, state, Turn, shown, written_back, bad_line, opened, edited, answered, InSession, turn_of, turned, Done}

-- a line that is cut where no line with a meaning goes on does and writes what the whole line does
pub cut_turn : (s : State) (line : List ℕ) (k : ℕ) → longest_line < k → turn_of s (command_of (take k line)) ≡ turn_of s (command_of line)
cut_turn s line k h = ap (turn_of s) (cut_line line k h)

-- the directory lent has the words that the ruler asks for
pub in_front : (numbers : Numbers) {n : ℕ} (d : List ℕ) → n ≡ directory_length (bottom_of numbers) → bottom_of numbers ≤ deepest_here
    → directory_length deepest_here ≤ length d → n ≤ length d
unfolding directory_length partitions
in_front numbers d e deep whole =
    let m = bottom_of numbers in
    let more : 2 ^ (m + 1) ≤ 2 ^ (deepest_here + 1) = pow-le-pow_right (lit< tt) {i = m + 1} {j = deepest_here + 1} (omega arith) in
    omega arith

-- a D line that is not malformed names no deeper level
not_deeper : (started : Bool) (m : ℕ) → (started || ltb deepest_here m) ≡ false → m ≤ deepest_here
not_deeper false m e = ltb-false deepest_here m e
not_deeper true m e = let z : ◌≡◌ {A = ℕ} 0 1 = cc in omega arith

module _ (numbers : Numbers) (d o r : List ℕ) (n : ℕ) (long : n ≡ directory_length (bottom_of numbers)) where
  -- what is lent is the index of the ruler
  lent : index (mid_of 0 (n - 0) d) o r ≡ shown numbers (index d o r)
  unfolding shown
  lent = rw (head_lent d n, long)

  pub answered_done : (list : List ℕ) {l' reply₀ reply : List ℕ} {outcome : Outcome} {count written : ℕ} (call : Index → Asked)
      → asked outcome count l' ≡ call (index (mid_of 0 (n - 0) d) o r) → Wrote (answer_bytes outcome (take count l')) reply₀ reply written
      → Done (answered (state (Some numbers) (index d o r) list) (call (shown numbers (index d o r)))) (turned (Some numbers) written true) (index d o r) l' reply₀ reply
  unfolding answered
  answered_done list {l'} {reply₀} {reply} {outcome} {count} call made wrote =
      let e : asked outcome count l' ≡ call (shown numbers (index d o r)) = made ∙ ap call lent in
      record {
        next = rw (← e);
        goes = refl;
        count = rw (← e) wrote.0;
        fits = wrote.2;
        bytes = rw (← e) wrote.1;
      }

  module _ (deep : bottom_of numbers ≤ deepest_here) (whole : directory_length deepest_here ≤ length d) where
    -- and what comes back, as long as what was lent, is put over its front
    back : {d' o' r' : List ℕ} {outcome : Outcome} {a : After} → length d' ≡ length (mid_of 0 (n - 0) d) → after outcome (index d' o' r') ≡ a
        → index (put_mid 0 (n - 0) d d') o' r' ≡ written_back a.words (index d o r)
    unfolding written_back over
    back {d'} kept e =
        let part = mid_len 0 n d (in_front numbers d long deep whole) in
        let l : length d' ≡ n = omega (arith, kept, part) in
        rw (← e, head_back d n d', ← l)

    pub opened_done : (l : List ℕ) {d' o' r' rows reply₀ reply : List ℕ} {outcome : Outcome} {accepted : Bool} {written : ℕ}
        → after outcome (index d' o' r') ≡ build_of (scale_of numbers) rows (index (mid_of 0 (n - 0) d) o r) → rows ≡ []
        → length d' ≡ length (mid_of 0 (n - 0) d)
        → accepted ≡ is_accepted outcome → Wrote (outcome_bytes outcome) reply₀ reply written
        → Done (opened (state None (index d o r) l) numbers) (turned (then_some accepted numbers) written accepted)
        (index (put_mid 0 (n - 0) d d') o' r') l reply₀ reply
    unfolding opened
    opened_done l {d'} {o'} {r'} {rows} {reply₀} {reply} {outcome} {accepted} made none kept good wrote =
        let a : After = build_of (scale_of numbers) [] (shown numbers (index d o r)) in
        let e : after outcome (index d' o' r') ≡ a = made ∙ rw (none, lent) in
        let same : outcome ≡ a.outcome = ap (λ (x : After). x.outcome) e in
        let words = back {a = a} kept e in
        record {
          next = rw (words, good, same);
          goes = rw (good, same);
          count = rw (← same) wrote.0;
          fits = wrote.2;
          bytes = rw (← same) wrote.1;
        }

    pub edited_done : (l : List ℕ) {d' o' r' reply₀ reply : List ℕ} {outcome : Outcome} {written : ℕ} (call : Index → After)
        → after outcome (index d' o' r') ≡ call (index (mid_of 0 (n - 0) d) o r) → length d' ≡ length (mid_of 0 (n - 0) d)
        → Wrote (outcome_bytes outcome) reply₀ reply written
        → Done (edited (state (Some numbers) (index d o r) l) (call (shown numbers (index d o r)))) (turned (Some numbers) written true)
        (index (put_mid 0 (n - 0) d d') o' r') l reply₀ reply
    unfolding edited
    edited_done l {d'} {o'} {r'} {reply₀} {reply} {outcome} call made kept wrote =
        let a : After = call (shown numbers (index d o r)) in
        let e : after outcome (index d' o' r') ≡ a = made ∙ ap call lent in
        let same : outcome ≡ a.outcome = ap (λ (x : After). x.outcome) e in
        let words = back {a = a} kept e in
        record {
          next = rw words;
          goes = refl;
          count = rw (← same) wrote.0;
          fits = wrote.2;
          bytes = rw (← same) wrote.1;
        }

-- the ids of a question have room in its answer list, which is as long as before; a refused question has none
pub count-within : (s : Scale) (x : Index) (q : Asking) (list : List ℕ) {l' : List ℕ} {outcome : Outcome} {count : ℕ}
    → asked outcome count l' ≡ ask_of s x q list → length l' ≡ length list → count ≤ length l'
unfolding ask_of if_accepted over
count-within s x q list {l'} {outcome} {count} e kept =
    go (ask_outcome s x q (length list)) (answer_to q (table_of s x))
    (ap (λ (a : Asked). a.count) e) (ap (λ (a : Asked). a.answers) e)
  where
    go : (q : Outcome) (ids : List ℕ) → count ≡ if_accepted q (length ids) 0 → l' ≡ if_accepted q (over ids list) list → count ≤ length l'
    go (Ok _) ids counted written =
        let long = ap length written ∙ length-append ids (drop (length ids) list) in
        omega arith
    go (Err r) ids counted written = omega arith

-- a line that is only for an open session leaves its ruler
whenever : (s : State) (turn : Numbers → Turn) (none : Turn) → ((n : Numbers) → (turn n).next.desk ≡ s.desk) → none.next.desk ≡ s.desk
    → IfSome s.desk InSession → IfSome (option_map_or turn s.desk none).next.desk InSession
whenever s turn none kept shut h = rw (go s.desk) h
  where
    go : (o : Option Numbers) → (option_map_or turn o none).next.desk ≡ s.desk
    go None = shut
    go (Some n) = kept n

-- every turn leaves a ruler of the session
pub keeps : (s : State) (c : Option Command) → IfSome s.desk InSession → IfSome (turn_of s c).next.desk InSession
unfolding turn_of bad_line opened edited answered
keeps s None h = h
keeps s (Some (Ruler w m)) h = go (is_some s.desk || ltb deepest_here m) refl
  where
    named : (b : Bool) → m ≤ deepest_here → IfSome (then_some b (numbers_of w m)) InSession
    named true k = k
    named false k = tt

    go : (t : Bool) → (is_some s.desk || ltb deepest_here m) ≡ t
        → IfSome (cond t (bad_line s) (opened s (numbers_of w m))).next.desk InSession
    go true e = h
    go false e = named _ (not_deeper (is_some s.desk) m e)
keeps s (Some (Add i st end days)) h = whenever s _ _ (λ n. refl) refl h
keeps s (Some (Remove i)) h = whenever s _ _ (λ n. refl) refl h
keeps s (Some (Ask c st end day)) h = whenever s _ _ (λ n. refl) refl h

pub done_keeps : (s : State) (c : Option Command) {r : Turned} {x : Index} {answers reply₀ reply : List ℕ}
    → Done (turn_of s c) r x answers reply₀ reply
    → IfSome s.desk InSession → IfSome r.desk InSession
done_keeps s c done h = rw (ap (λ (y : State). y.desk) done.next) (keeps s c h)
