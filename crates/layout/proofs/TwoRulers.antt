-- Words that are an index under two rulers. They carry no ruler: under each they are the index of one and the same table, laid out by that ruler's cells,
-- and a question whose window both rulers have is answered alike.
use mathlib.Core.Path.{◌≡◌, sym, ap, subst, ◌∙◌}
use mathlib.Core.List.{List}
use Prim.Native.Nat.{ℕ, ◌+◌, ◌*◌, ◌<◌}
use native.Mathlib.Decide.{dec_lt}
use native.Mathlib.Omega.{arith}
use lib.ListN.{length}
use lib.Pow.{pow_pos, pow-lt}
use Rattle.ruler.specs.Ruler.{Scale}
use Rattle.ruler.proofs.Fair.{Fair}
use Rattle.trip.specs.declared.Asking.{Asking}
use Rattle.layout.specs.declared.Half.TheVariants.{Originals}
use Rattle.layout.specs.declared.Refusal.TheVariants.{NoRelationship}
use Rattle.layout.specs.Outcomes.{Accepted}
use Rattle.layout.specs.Words.{entry_words, words, rows, Reordered, partitions, directory_length, entries, Index, lengths_of}
use Rattle.layout.specs.Answers.{answer_to}
use Rattle.layout.specs.Refusals.{IndexOf, table_of, refuse, no_such_code, window_tests, question_tests, room_test, ask_outcome}
use Rattle.layout.specs.Calls.{After, after, build_of, ask_of}
use Rattle.layout.proofs.Rows.{of_whole, length-rows, rows_words, words-length}
use Rattle.layout.proofs.Chains.{window_pass}
use Rattle.layout.proofs.Tables.{Table, of_build}
use Rattle.layout.proofs.Indexes.{Indexed, given_table, given_indexed, table_again, back_in, in_back, back_length}
use Rattle.layout.proofs.EditsBuild.{to_index_tests, build-accepted}
use Rattle.layout.proofs.Left.{built_left}
use Rattle.layout.proofs.Reordered.{reordered_built}

-- a directory's length tells m
no_deeper : (m n : ℕ) → directory_length m ≡ directory_length n → m < n → ⊥
unfolding directory_length partitions
no_deeper m n e h =
    let more : m + 1 < n + 1 = omega arith in
    omega (arith, pow-lt more, pow_pos (m + 1))

one_bottom : (m n : ℕ) → directory_length m ≡ directory_length n → m ≡ n
one_bottom m n e = go (dec_lt m n) (dec_lt n m)
  where
    go : Dec (m < n) → Dec (n < m) → m ≡ n
    go (yes h) b = absurd (no_deeper m n e h)
    go (no h) (yes g) = absurd (no_deeper n m (sym e) g)
    go (no h) (no g) = omega arith

-- a question whose window a ruler has, to an index of it: what is left to be tested is the same under each
outcome : (s : Scale) {x : Index} → Indexed s x → (q : Asking) → window_tests s q.window q.day Accepted ≡ Accepted → (room : ℕ)
    → ask_outcome s x q room ≡ refuse (no_such_code q.code) NoRelationship 0 (room_test (length (answer_to q (table_of s x))) room)
unfolding ask_outcome question_tests
outcome s {x = x} h q on room =
    to_index_tests s x _ h ∙ ap (refuse (no_such_code q.code) NoRelationship 0) (window_pass s q.window q.day (room_test (length (answer_to q (table_of s x))) room) on)

module _ (s k : Scale) (fair : Fair s) (fair-too : Fair k) (table other : List ℕ) (x : Index) (g : IndexOf s table x) (h : IndexOf k other x) where
  under : Indexed s x
  under = given_indexed s fair table x g

  under_too : Indexed k x
  under_too = given_indexed k fair-too other x h

  same_bottom : s.m ≡ k.m
  same_bottom = one_bottom s.m k.m (sym under.table.directory ∙ under_too.table.directory)

  -- the trips are read off without a ruler's cells
  pub same_trips : table_of s x ≡ table_of k x
  unfolding table_of
  same_trips = rw same_bottom

  -- and they are the table's, in whatever order
  of_table : table_of s x ≡ entries s Originals (rows table)
  of_table = table_again s fair (rows table) x (given_table s table x g) g.words_are

  known : Table s (rows table) (lengths_of x)
  known = given_table s table x g

  reordered : Reordered (words (table_of s x)) table
  reordered =
      let ts = table_of s x in
      let long : length (words ts) ≡ length table =
      words-length ts
      ∙ ap (λ (n : ℕ). entry_words * n) (ap length of_table ∙ back_length s fair (rows table) (lengths_of x) known ∙ length-rows table)
      ∙ of_whole (length table) (of_build s table (lengths_of x) g.accepted).1 in
      record {
        as_long = long;
        same_rows = λ t. (
          λ m. back_in s fair (rows table) (lengths_of x) known t (rw (rows_words ts, of_table) at m),
          λ m. rw (rows_words ts, of_table) (in_back s fair (rows table) (lengths_of x) known t m),
        );
      }

  -- so the table's index under the other ruler is the same words
  built : build_of k table x ≡ after Accepted x
  built =
      let now = rw (← same_trips) at (build-accepted k (table_of k x) x under_too.table) in
      let here = rw (← same_trips) at under_too.words_are in
      let accepted = ap (λ (a : After). a.outcome) now in
      reordered_built k (words (table_of s x)) table reordered x accepted ∙ now ∙ ap (after Accepted) (sym here)

  pub same-table : IndexOf k table x
  same-table =
      subst (IndexOf k table) (ap (λ (a : After). a.words) built)
      (built_left k table x (ap (λ (a : After). a.outcome) built)).is-index

  -- a question whose window both rulers have
  pub same-answers : (q : Asking) (list : List ℕ) → window_tests s q.window q.day Accepted ≡ Accepted → window_tests k q.window q.day Accepted ≡ Accepted
      → ask_of s x q list ≡ ask_of k x q list
  unfolding ask_of
  same-answers q list a b =
      let one = outcome s under q a (length list) in
      let two = outcome k under_too q b (length list) in
      rw (one, two, same_trips)
