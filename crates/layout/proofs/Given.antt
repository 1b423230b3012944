-- What an index shows is the same for EVERY table that gives its words: the answers, the census, the runs, and so what the calls return.
use Rattle.std.proofs.Common.{Some}
use mathlib.Core.Path.{◌≡◌, ap, ◌∙◌, fun_ext}
use mathlib.Core.Bool.{cond}
use mathlib.Core.List.{List, map}
use Prim.Native.Nat.{ℕ, suc, ◌*◌}
use lib.Dec.{leb}
use lib.ListN.{length, length-map}
use Rattle.lists.specs.Lists.{keep, joined, up_to, over}
use Rattle.lists.proofs.Kept.{keep_both}
use Rattle.lists.proofs.Members.{In, length-sort}
use Rattle.ruler.specs.Ruler.{Scale, deepest}
use Rattle.ruler.proofs.Fair.{Fair}
use Rattle.trip.specs.declared.Trip.{Trip}
use Rattle.trip.specs.declared.Asking.{Asking}
use Rattle.trip.specs.declared.Question.{Question}
use Rattle.trip.specs.declared.Relationship.{Relationship}
use Rattle.trip.specs.Relationships.{named, related, holds_by, code_holds}
use Rattle.trip.specs.Trips.{runs_on}
use Rattle.trip.proofs.Naming.{named-within}
use Rattle.layout.specs.declared.Half.{Half}
use Rattle.layout.specs.declared.Subdivision.{Subdivision}
use Rattle.layout.specs.declared.Subdivision.TheVariants.{OIn, OAft, RIn, RAft}
use Rattle.layout.specs.Outcomes.{Accepted}
use Rattle.layout.specs.Stored.{partitions_at}
use Rattle.layout.specs.Words.{entry_words, rows, words, slot_number, slot_trips, entries, Index}
use Rattle.layout.specs.Answers.{matches, answer, question, answer_by, answer_to, level_count, level_row, census, half_of, is_aft, run_words, run_from}
use Rattle.layout.specs.Refusals.{OnRuler, IndexOf, table_of, no_such_code, window_tests, question_tests, room_test, ask_outcome}
use Rattle.layout.specs.Calls.{Asked, asked, if_accepted, ask_of}
use Rattle.layout.proofs.Chains.{refuse_no, refuse_pass, window_on, window_pass}
use Rattle.layout.proofs.RowOrder.{Distinct, slot_trips-same, before_same, entries-same, length-same}
use Rattle.layout.proofs.Indexes.{given_table, given_indexed}
use Rattle.layout.proofs.SortedLists.{id_of, answer-same}
use Rattle.layout.proofs.EditsBuild.{of_index_tests, to_index_tests, table_in, in_table}

-- ---- two tables with the same rows, no id twice in either

module _ (s : Scale) (ts us : List Trip) (n : Distinct ts) (e : Distinct us) (f : In ts us) (g : In us ts) where
  level_same : (L : ℕ) (d : Subdivision) → level_count s ts L d ≡ level_count s us L d
  unfolding level_count
  level_same L d =
      let k : ◌≡◌ {A = ℕ → List Trip} (λ i. slot_trips s d L i ts) (λ i. slot_trips s d L i us) = fun_ext λ i. slot_trips-same s ts us n e f g d L i in
      ap (λ (h : ℕ → List Trip). cond (leb L s.m) (length (joined h (partitions_at L))) 0) k

  pub census-same : census s ts ≡ census s us
  unfolding census level_row
  census-same =
      ap (λ (h : ℕ → List ℕ). up_to h (suc deepest))
      (fun_ext λ L. rw (level_same L OIn, level_same L OAft, level_same L RIn, level_same L RAft))

  pub run_words-same : (L i : ℕ) (d : Subdivision) → run_words s ts L i d ≡ run_words s us L i d
  unfolding run_words
  run_words-same L i d = ap words (slot_trips-same s ts us n e f g d L i)

  pub run_from-same : (L i : ℕ) (d : Subdivision) → run_from s ts L i d ≡ run_from s us L i d
  unfolding run_from
  run_from-same L i d = ap (λ (l : List Trip). entry_words * length l) (before_same s ts us n e f g (half_of d) (slot_number L i (is_aft d)))

-- as many ids as matches
pub answer-count : (q : Question) (ts : List Trip) → length (answer q ts) ≡ length (matches q ts)
unfolding answer
answer-count q ts = length-sort leb (map id_of (matches q ts)) ∙ length-map (matches q ts) id_of

-- an accepted question has passed 4, 5 and 17
pub asked_on_ruler : (s : Scale) (x : Index) (q : Asking) (room : ℕ) → ask_outcome s x q room ≡ Accepted
    → OnRuler s q.window.start q.window.end
unfolding ask_outcome question_tests
asked_on_ruler s x q room e = (window_on s q.window q.day _ (refuse_no _ _ 0 _ (of_index_tests s x _ e).1).1).0

-- ---- a table that gives the words, and the trips that are read off them

module _ (s : Scale) (fair : Fair s) (table : List ℕ) (x : Index) (g : IndexOf s table x) where
  -- a law of two tables with the same rows, of these two
  of_the_two : {A : Type 0} (f : List Trip → A)
      → ((ts us : List Trip) → Distinct ts → Distinct us → In ts us → In us ts → f ts ≡ f us) → f (table_of s x) ≡ f (rows table)
  of_the_two f law =
      let t = given_table s table x g in
      let h = given_indexed s fair table x g in
      law (table_of s x) (rows table) h.table.rows_ok.distinct t.rows_ok.distinct (table_in s fair x (rows table) t g.words_are)
      (in_table s fair x (rows table) t g.words_are)

  pub given_length : length (table_of s x) ≡ length (rows table)
  given_length = of_the_two length length-same

  pub given_entries : (h : Half) → entries s h (table_of s x) ≡ entries s h (rows table)
  given_entries h = of_the_two (entries s h) (λ ts us n e f b. entries-same s ts us n e f b h)

  pub given_answer : (q : Question) → answer q (table_of s x) ≡ answer q (rows table)
  given_answer q = of_the_two (answer q) (answer-same q)

  pub given_census : census s (table_of s x) ≡ census s (rows table)
  given_census = of_the_two (census s) (census-same s)

  pub given_run : (L i : ℕ) (d : Subdivision) → run_words s (table_of s x) L i d ≡ run_words s (rows table) L i d
  given_run L i d = of_the_two (λ (ts : List Trip). run_words s ts L i d) (λ ts us n e f b. run_words-same s ts us n e f b L i d)

  pub given_run-from : (L i : ℕ) (d : Subdivision) → run_from s (table_of s x) L i d ≡ run_from s (rows table) L i d
  given_run-from L i d = of_the_two (λ (ts : List Trip). run_from s ts L i d) (λ ts us n e f b. run_from-same s ts us n e f b L i d)

  -- a question whose window is on the ruler, and not backward, and whose day trips can have
  module _ (q : Asking) (r : Relationship) (is : named q.code ≡ Some r) where
    given_ids : answer_to q (table_of s x) ≡ answer (question r q) (rows table)
    unfolding answer_to answer_by
    given_ids = rw is (given_answer (question r q))

    -- 7 decides, by the matches of the table
    pub given_outcome : (room : ℕ) → window_tests s q.window q.day Accepted ≡ Accepted
        → ask_outcome s x q room ≡ room_test (length (matches (question r q) (rows table))) room
    unfolding ask_outcome question_tests no_such_code
    given_outcome room ok =
        to_index_tests s x _ (given_indexed s fair table x g)
        ∙ refuse_pass _ _ 0 _ (rw (named-within q.code is) tt)
        ∙ window_pass s q.window q.day _ ok
        ∙ ap (λ (k : ℕ). room_test k room) (ap length given_ids ∙ answer-count (question r q) (rows table))

    -- and an accepted question lists them
    pub given_asked : (list : List ℕ) → ask_outcome s x q (length list) ≡ Accepted → ask_of s x q list
        ≡ asked Accepted (length (answer (question r q) (rows table))) (over (answer (question r q) (rows table)) list)
    unfolding ask_of if_accepted
    given_asked list e = rw (e, given_ids)

    -- as many as what its code names holds of, of those that run that day
    pub given_count : (list : List ℕ) → ask_outcome s x q (length list) ≡ Accepted → (ask_of s x q list).count
        ≡ length (keep (code_holds q.code q.window) (keep (runs_on q.day) (rows table)))
    unfolding matches holds_by
    given_count list e =
        ap (λ (a : Asked). a.count) (given_asked list e) ∙ answer-count (question r q) (rows table)
        ∙ rw is (ap length (keep_both (related r q.window) (runs_on q.day) (rows table)))
