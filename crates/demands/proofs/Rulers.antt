-- "Demands 2 and 3 then read whichever ruler the call names; the words carry none, and 8 is judged for that ruler" (document 02, T-09). Every theorem
-- of Exact, Edits, Refusals and Thirteen is over `Numbers`, so each holds for both kinds of ruler. Here: what holds of words that are an index under two rulers,
-- of one kind or of both. That they may be an index under one alone is an example of the starred list.
use mathlib.Core.Path.{◌≡◌, sym, ◌∙◌}
use mathlib.Core.List.{List}
use Prim.Native.Nat.{ℕ}
use Rattle.ruler.specs.declared.Numbers.{Numbers}
use Rattle.ruler.specs.Ruler.{scale_of}
use Rattle.trip.specs.declared.Asking.{Asking}
use Rattle.layout.specs.Outcomes.{Accepted}
use Rattle.layout.specs.Words.{rows, Index, lengths_of, layout}
use Rattle.layout.specs.Refusals.{window_tests, IndexOf}
use Rattle.layout.specs.Calls.{ask_of}
use Rattle.layout.proofs.Indexes.{given_fair}
use Rattle.layout.proofs.TwoRulers.{same-table, same-answers}

module _ (n k : Numbers) (x : Index) (table other : List ℕ) (g : IndexOf (scale_of n) table x) (h : IndexOf (scale_of k) other x) where
  -- under the one they are the index of a table, under the other of the same table
  pub one_table : IndexOf (scale_of k) table x
  one_table = same-table (scale_of n) (scale_of k) (given_fair n table x g) (given_fair k other x h) table other x g h

  -- whose trips each ruler lists by its own cells, in the same words
  pub one_layout : layout (scale_of n) (rows table) (lengths_of x) ≡ layout (scale_of k) (rows table) (lengths_of x)
  one_layout = sym g.words_are ∙ one_table.words_are

  -- so a question whose window both rulers have gives the same ids, and the same number where the list is too short
  pub one_answer : (q : Asking) (list : List ℕ) → window_tests (scale_of n) q.window q.day Accepted ≡ Accepted
      → window_tests (scale_of k) q.window q.day Accepted ≡ Accepted → ask_of (scale_of n) x q list ≡ ask_of (scale_of k) x q list
  one_answer = same-answers (scale_of n) (scale_of k) (given_fair n table x g) (given_fair k other x h) table other x g h
