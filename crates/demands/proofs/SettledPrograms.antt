-- The same for what programs call: the C functions, and the session's turns, chunks and end.
use mathlib.Core.Path.{◌≡◌, sym, ap, ◌∙◌}
use mathlib.Core.List.{List, []}
use Prim.Native.Nat.{ℕ}
use Rattle.layout.specs.Words.{Index}
use Rattle.export.specs.declared.NamedRuler.{NamedRuler}
use Rattle.export.specs.Said.{bits_named, spread_named, numbers_named}
use Rattle.export.specs.Said.{Left, left, Heard, told, Counted, counted, build_said, check_said, add_said, remove_said, ask_said, census_said, run_said}
use Rattle.layout.specs.Calls.{index}
use Rattle.text.specs.Bytes.{space, place_of}
use Rattle.text.specs.Number.{number_of}
use Rattle.text.specs.Decimal.{written_of}
use Rattle.text.specs.Command.{command_of}
use Rattle.dialogue.specs.Session.{State, state, Turn, turn_of}
use Rattle.feeding.specs.declared.Standing.{Standing}
use Rattle.feeding.specs.Feeding.{Held, Feed, feed_of, end_of}
use Rattle.feeding.proofs.Holding.{one_standing}
use Rattle.demands.specs.Settled.{One, OneLeft, OneHeard, OneCounted, OneTurn, OneFeed, Begun}
use Rattle.demands.proofs.Settled.{settled}

-- ---- the C functions

one_left : (said : Left) → OneLeft said
one_left said r q y z e f =
    let same = settled said (left r y) (left q z) e f in
    (ap (λ (a : Left). a.said) same, ap (λ (a : Left). a.words) same)

one_heard : (said : Heard) → OneHeard said
one_heard said t u l m e f =
    let same = settled said (told t l) (told u m) e f in
    (ap (λ (a : Heard). a.told) same, ap (λ (a : Heard). a.answers) same)

one_counted : (said : Counted) → OneCounted said
one_counted said r q c d e f =
    let same = settled said (counted r c) (counted q d) e f in
    (ap (λ (a : Counted). a.said) same, ap (λ (a : Counted). a.counts) same)

pub kheyambo_bits_settled : (w m : ℕ) → One (bits_named w m)
kheyambo_bits_settled w m = settled (bits_named w m)

pub kheyambo_spread_settled : (m lo hi : ℕ) → One (spread_named m lo hi)
kheyambo_spread_settled m lo hi = settled (spread_named m lo hi)

module _ (r : NamedRuler) (x : Index) where
  pub kheyambo_build_settled : (table : List ℕ) → OneLeft (build_said (numbers_named r) table x)
  kheyambo_build_settled table = one_left (build_said (numbers_named r) table x)

  pub kheyambo_check_settled : One (check_said (numbers_named r) x)
  kheyambo_check_settled = settled (check_said (numbers_named r) x)

  pub kheyambo_add_settled : (id start end days : ℕ) → OneLeft (add_said (numbers_named r) id start end days x)
  kheyambo_add_settled id start end days = one_left (add_said (numbers_named r) id start end days x)

  pub kheyambo_remove_settled : (id : ℕ) → OneLeft (remove_said (numbers_named r) id x)
  kheyambo_remove_settled id = one_left (remove_said (numbers_named r) id x)

  pub kheyambo_ask_settled : (code start end day : ℕ) (list : List ℕ) → OneHeard (ask_said (numbers_named r) code start end day x list)
  kheyambo_ask_settled code start end day list = one_heard (ask_said (numbers_named r) code start end day x list)

  pub kheyambo_census_settled : OneCounted (census_said (numbers_named r) x)
  kheyambo_census_settled = one_counted (census_said (numbers_named r) x)

  pub kheyambo_run_settled : (L i d : ℕ) → One (run_said (numbers_named r) L i d x)
  kheyambo_run_settled L i d = settled (run_said (numbers_named r) L i d x)

-- ---- a line of the session: its fields, numbers and meaning, and a number written

pub field_settled : (bytes : List ℕ) (from : ℕ) → One (place_of space bytes from)
field_settled bytes from = settled (place_of space bytes from)

pub field_number_settled : (field : List ℕ) → One (number_of field)
field_number_settled field = settled (number_of field)

pub command_settled : (line : List ℕ) → One (command_of line)
command_settled line = settled (command_of line)

pub written_settled : (n : ℕ) (out : List ℕ) → One (written_of n out)
written_settled n out = settled (written_of n out)

-- ---- a turn of the session

one_turn : (said : Turn) (reply : List ℕ) → OneTurn said reply
one_turn said reply r q y z l m bytes others a b =
    let same = settled said.next (state r.desk y l) (state q.desk z m) a.next b.next in
    let desk = ap (λ (s : State). s.desk) same in
    let goes = a.goes ∙ sym b.goes in
    let count = a.count ∙ sym b.count in (
      (λ i. record { desk = desk i; written = count i; more = goes i }),
      ap (λ (s : State). s.words) same,
      ap (λ (s : State). s.answers) same,
      a.bytes ∙ sym b.bytes,
    )

pub turn_settled : (s : State) (line reply : List ℕ) → OneTurn (turn_of s (command_of line)) reply
turn_settled s line reply = one_turn (turn_of s (command_of line)) reply

-- ---- some of its input

one_feed : (said : Feed) (out : List ℕ) → OneFeed said out
one_feed said out r q y z l m bytes others a b =
    let same = a.holds ∙ sym b.holds in
    let keeps = ap (λ (h : Held). h.keeps) same in
    let stands = one_standing r.standing q.standing y z l m same in
    let count = a.count ∙ sym b.count in (
      (λ i. record { standing = stands i; written = count i }),
      ap (λ (s : State). s.words) keeps,
      ap (λ (s : State). s.answers) keeps,
      a.bytes ∙ sym b.bytes,
    )

-- before the first byte
pub begin_settled : (r q : Standing) → Begun r → Begun q → r ≡ q
begin_settled r q a b =
    let none = index [] [] [] in
    one_standing r q none none [] [] (a.1 none [] ∙ sym (b.1 none []))

pub feed_settled : (h : Held) (chunk out : List ℕ) → OneFeed (feed_of h chunk) out
feed_settled h chunk out = one_feed (feed_of h chunk) out

pub finish_settled : (h : Held) (out : List ℕ) → OneFeed (end_of h) out
finish_settled h out = one_feed (end_of h) out
