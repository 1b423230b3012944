-- What the code holds is what the definitions hold: after a line, after a byte, and from byte to byte of a chunk.
-- Assumes nothing.
use mathlib.Core.Path.{◌≡◌, refl, sym, ap, ◌∙◌}
use mathlib.Core.HLevel.{is_prop→PathP}
use mathlib.Core.Bool.{true, false, ◌&&◌}
use mathlib.Core.List.{List, [], ◌++◌}
use Prim.Native.Nat.{ℕ, ◌+◌, ◌-◌, ◌*◌, ◌≤◌, ◌<◌}
use native.Mathlib.Numerals.{add-one}
use native.Mathlib.Omega.{arith}
use borrow.Author.Tests.{eq-eqb, ne_eqb}
use lib.Dec.{ltb}
use lib.ListN.{length, drop, get_or, length-append, length-take}
use lib.Seq.{sets, length-sets, drop-cons, drop-length}
use borrow.Rule.Slice.PartMut.{mid_of, put_mid}
use Rattle.std.proofs.Props.{props}
use Rattle.lists.specs.Lists.{padded}
use Rattle.lists.proofs.Lent.{part_stored}
use Rattle.lists.proofs.Stores.{sets_append}
use Rattle.layout.specs.Words.{Index}
use Rattle.text.specs.Bytes.{newline}
use Rattle.text.specs.Command.{command_of}
use Rattle.dialogue.specs.declared.Turned.{Turned}
use Rattle.feeding.specs.declared.line.Line.{Line}
use Rattle.feeding.specs.declared.Standing.{Standing}
use Rattle.feeding.specs.declared.Fed.{Fed}
use Rattle.dialogue.specs.Session.{most_reply, state, turn_of, Done}
use Rattle.feeding.specs.Line.{line_kept, Kept}
use Rattle.feeding.specs.Feeding.{Held, Feed, leaving, line_done, byte_kept, byte_of, feed_of, end_of, line_of, held_by, Sound, Left}
use Rattle.feeding.proofs.Keeping.{count_back}
use Rattle.dialogue.proofs.SessionTurns.{done_keeps}

-- what is kept of a line settles every word of it
one_line : (a b : Line) → line_of a ≡ line_of b → a ≡ b
one_line a b e =
    let bytes : a.bytes ≡ b.bytes = a.kept.zeros ∙ ap (padded line_kept) e ∙ sym b.kept.zeros in
    let len : a.len ≡ b.len = sym (count_back a.bytes a.len a.kept) ∙ ap length e ∙ count_back b.bytes b.len b.kept in
    λ i. record {
      bytes = bytes i;
      len = len i;
      kept = is_prop→PathP (λ j. Kept (bytes j) (len j)) (λ j. hlevel props) a.kept b.kept i;
    }

-- what is held settles every word of what the code holds
pub one_standing : (s t : Standing) (x y : Index) (l m : List ℕ) → held_by s x l ≡ held_by t y m → s ≡ t
one_standing s t x y l m e =
    let desk : s.desk ≡ t.desk = ap (λ (h : Held). h.keeps.desk) e in
    let line : s.line ≡ t.line = one_line s.line t.line (ap (λ (h : Held). h.line) e) in
    let more : s.more ≡ t.more = ap (λ (h : Held). h.goes_on) e in
    λ i. record { desk = desk i; line = line i; more = more i }

-- ---- A line that ended

pub line-left : (s : Standing) (x : Index) (l : List ℕ) → Sound s → {r : Turned} {x' : Index} {l' out₀ out : List ℕ}
    → Done (turn_of (state s.desk x l) (command_of (line_of s.line))) r x' l' out₀ out → (line : Line) → line_of line ≡ []
    → Left (line_done (held_by s x l)) (record { standing = record { desk = r.desk; line = line; more = r.more }; written = r.written }) x' l' out₀ out
unfolding line_done
line-left s x l sound done line none = record {
  holds = rw (done.next, done.goes, none);
  sound = record { ruler = done_keeps _ _ done sound.ruler };
  count = done.count;
  fits = done.fits;
  bytes = done.bytes;
}

-- ---- What a byte leaves, by what it is, and what the end leaves

module _ (s : Standing) (x : Index) (l : List ℕ) {r : Fed} {x' : Index} {l' out₀ out : List ℕ} where
  pub byte_over : (b : ℕ) → s.more ≡ false → Left (leaving (held_by s x l) []) r x' l' out₀ out → Left (byte_of (held_by s x l) b) r x' l' out₀ out
  unfolding byte_of
  byte_over b e left = rw e (rw e at left)

  pub byte_ends : (b : ℕ) → s.more ≡ true → b ≡ newline → Left (line_done (held_by s x l)) r x' l' out₀ out
      → Left (byte_of (held_by s x l) b) r x' l' out₀ out
  unfolding byte_of
  byte_ends b e n left = rw (e, eq-eqb b newline n) (rw e at left)

  pub byte_stays : (b : ℕ) → s.more ≡ true → (b ≡ newline → ⊥) → {h : Held} → h ≡ (byte_kept (held_by s x l) b).after
      → Left (leaving h []) r x' l' out₀ out → Left (byte_of (held_by s x l) b) r x' l' out₀ out
  unfolding byte_of byte_kept
  byte_stays b e n kept left = rw (e, ne_eqb b newline n) (rw (kept, e) at left)

  pub end_line : (s.more && ltb 0 (length (line_of s.line))) ≡ true → Left (line_done (held_by s x l)) r x' l' out₀ out
      → Left (end_of (held_by s x l)) r x' l' out₀ out
  unfolding end_of
  end_line e left = rw e left

  pub end_silent : (s.more && ltb 0 (length (line_of s.line))) ≡ false → Left (leaving (held_by s x l) []) r x' l' out₀ out
      → Left (end_of (held_by s x l)) r x' l' out₀ out
  unfolding end_of
  end_silent e left = rw e left

-- ---- A chunk, from byte to byte

-- i bytes were fed: what the rest of the chunk does from here is what the chunk does from its start
pub record Feeding (h₀ : Held) (chunk out₀ : List ℕ) (s : Standing) (x : Index) (answers out : List ℕ) (to i : ℕ) : Type 0 where
  pub sound : Sound s
  pub rest : (feed_of (held_by s x answers) (drop i chunk)).after ≡ (feed_of h₀ chunk).after
  pub all : sets out to (feed_of (held_by s x answers) (drop i chunk)).writes ≡ sets out₀ 0 (feed_of h₀ chunk).writes
  pub many : to + length (feed_of (held_by s x answers) (drop i chunk)).writes ≡ length (feed_of h₀ chunk).writes
  pub long : length out ≡ length out₀
  pub short : to ≤ most_reply * i
  pub upto : i ≤ length chunk

pub feeding_start : (s : Standing) (x : Index) (answers chunk out : List ℕ) → Sound s → Feeding (held_by s x answers) chunk out s x answers out 0 0
feeding_start s x answers chunk out sound =
    record { sound = sound; rest = refl; all = refl; many = omega arith; long = refl; short = omega arith; upto = omega arith }

-- a byte writes no more than a line
pub byte_short : (out : List ℕ) (to e : ℕ) → e ≡ to + most_reply → {f : Feed} {r : Fed} {x : Index} {answers part : List ℕ}
    → Left f r x answers (mid_of to (e - to) out) part → r.written ≤ most_reply
byte_short out to e ends left = omega (arith, length-take (e - to) (drop to out), left.fits)

pub feeding_turn : {h₀ : Held} {chunk out₀ : List ℕ} {s : Standing} {x : Index} {answers out : List ℕ} {to i : ℕ} (e : ℕ)
    → Feeding h₀ chunk out₀ s x answers out to i → i < length chunk → e ≡ to + most_reply → e ≤ length out
    → {r : Fed} {x' : Index} {answers' part : List ℕ}
    → Left (byte_of (held_by s x answers) (get_or chunk i 0)) r x' answers' (mid_of to (e - to) out) part
    → Feeding h₀ chunk out₀ r.standing x' answers' (put_mid to (e - to) out part) (to + r.written) (i + 1)
unfolding feed_of
feeding_turn {h₀} {chunk} {out₀} {s} {x} {answers} {out} {to} {i} e w h ends room {r} {x'} {answers'} {part} left =
    let y = held_by s x answers in
    let f = byte_of y (get_or chunk i 0) in
    let later = drop (i + 1) chunk in
    let g = feed_of f.after later in
    let step : feed_of y (drop i chunk) ≡ leaving g.after (f.writes ++ g.writes) = rw add-one (ap (feed_of y) (drop-cons chunk i 0 h)) in
    let same : feed_of (held_by r.standing x' answers') later ≡ g = ap (λ (z : Held). feed_of z later) left.holds in
    let short = byte_short out to e ends left in
    let few : length f.writes ≤ e - to = omega (arith, left.count) in
    let stored : put_mid to (e - to) out part ≡ sets out to f.writes =
    ap (put_mid to (e - to) out) left.bytes ∙ part_stored out f.writes to (e - to) (omega arith) few in
    let both : length (feed_of y (drop i chunk)).writes ≡ length f.writes + length g.writes =
    ap (λ (z : Feed). length z.writes) step ∙ length-append f.writes g.writes in
    record {
      sound = left.sound;
      rest = ap (λ (z : Feed). z.after) same ∙ ap (λ (z : Feed). z.after) (sym step) ∙ w.rest;
      all = rw (same, stored, left.count) (sym (sets_append out to f.writes g.writes))
          ∙ ap (λ (z : Feed). sets out to z.writes) (sym step) ∙ w.all;
      many = rw same (omega (arith, w.many, left.count));
      long = ap length stored ∙ length-sets out to f.writes ∙ w.long;
      short = omega (arith, w.short);
      upto = omega arith;
    }

pub feeding_end : {h₀ : Held} {chunk out₀ : List ℕ} {s : Standing} {x : Index} {answers out : List ℕ} {to i : ℕ}
    → Feeding h₀ chunk out₀ s x answers out to i → length chunk ≤ i → most_reply * length chunk ≤ length out₀
    → Left (feed_of h₀ chunk) (record { standing = s; written = to }) x answers out₀ out
unfolding feed_of
feeding_end {h₀} {chunk} {out₀} {s} {x} {answers} {out} {to} {i} w h room =
    let done : i ≡ length chunk = omega (arith, w.upto) in
    let none : drop i chunk ≡ [] = rw done (drop-length chunk) in
    record {
      holds = rw none at w.rest;
      sound = w.sound;
      count = omega (arith, rw none at w.many);
      fits = omega (arith, w.short, w.upto);
      bytes = rw none at w.all;
    }
