-- The looks of a level meet what its stretches do, each is there in its order, and a half without entries has none that meets any.
use mathlib.Core.Path.{◌≡◌, refl, sym, ap, ◌∙◌}
use mathlib.Core.Bool.{Bool, true, false, cond}
use mathlib.Core.List.{List, [], ◌++◌, append-nil, append_assoc}
use Prim.Native.Nat.{ℕ, zero, suc, ◌-◌, ◌*◌, ◌≤◌, ◌<◌}
use native.Mathlib.Omega.{arith}
use lib.Dec.{eqb}
use lib.ListN.{length, get_or}
use borrow.Author.Tests.{eqb-true}
use Rattle.lists.specs.Lists.{keep, joined, up_to}
use Rattle.lists.proofs.Kept.{keep_append}
use Rattle.trip.specs.declared.Trip.{Trip}
use Rattle.layout.specs.declared.Half.{Half}
use Rattle.layout.specs.Words.{entry_words, rows}
use Rattle.layout.proofs.RowParts.{rows_apart}
use Rattle.plan.specs.declared.sought.Sought.{Sought}
use Rattle.plan.specs.declared.stretches.Stretch.{Stretch}
use Rattle.plan.specs.declared.stretches.Stretches.{Stretches}
use Rattle.plan.specs.declared.looks.Look.{Look}
use Rattle.plan.specs.Sought.{is_sought}
use Rattle.plan.specs.Plan.{stretch}
use Rattle.plan.specs.Looks.{front_end, front_of, back_of, looks, original_looks, look_at}
use Rattle.plan.proofs.SoughtMatches.{sought_outside}
use Rattle.store.specs.Parts.{part_words, PartThere}
use Rattle.walk.specs.Part.{stretch_matches}
use Rattle.walk.specs.Levels.{look_words, part_of, LookThere, look_matches, level_look, level_matches, LevelThere, looks_from, looks_to}
use Rattle.walk.proofs.LevelSlots.{InTurn, in_slot, aft_slot, after_in, SlotsThere, AllThere, four_matches}
use Rattle.walk.proofs.Searched.{starts_rise, ends_rise, cut_matches}

-- ---- a look

-- what is left to test of it has all its matches
part_is : (w : Sought) (d o r : List ℕ) (l : Look) (c : Bool) → l.stretch.sure ≡ c
    → keep (is_sought w l.stretch.sure) (rows (part_of w.bounds d o r l)) ≡ look_matches (is_sought w) d o r l
unfolding part_of look_matches look_words stretch_matches
part_is w d o r l true e = rw e refl
part_is w d o r l false e = rw e (cut_matches (is_sought w false) w.bounds _ (sought_outside w) l.order)

-- for look k of a level, and the part that the code has made for it
pub look_seen : (w : Sought) (d o r : List ℕ) (s : Stretches) (k : ℕ) {l : Look} {part : List ℕ} → l ≡ look_at s k → part ≡ part_of w.bounds d o r l
    → keep (is_sought w l.stretch.sure) (rows part) ≡ level_look (is_sought w) d o r s k
look_seen w d o r s k {l} e f = rw f (part_is w d o r l l.stretch.sure refl) ∙ ap (look_matches (is_sought w) d o r) e

pub none_kept : (t : Trip → Bool) → keep t [] ≡ []
unfolding keep
none_kept t = refl

no_rows : rows [] ≡ []
unfolding rows up_to
no_rows = refl

-- without entries it has no matches
bare_none : (t : Bool → Trip → Bool) (d a : List ℕ) (s : Stretch) → get_or d s.from 0 ≡ get_or d s.to 0 → stretch_matches t d a s ≡ []
unfolding stretch_matches part_words
bare_none t d a s e =
    let nothing : entry_words * get_or d s.to 0 - entry_words * get_or d s.from 0 ≡ 0 = rw e (omega arith) in
    rw (nothing, no_rows) (none_kept (t s.sure))

-- ---- a partition's stretch: front and back

front_all : (s : Stretch) → s.sure ≡ true → front_end s ≡ s.to
front_all s e = rw e refl

front_in : (s : Stretch) → s.sure ≡ false → front_end s ≡ after_in s
front_in s e = rw e refl

module _ {h : Half} {d l : List ℕ} {s : Stretch} (w : SlotsThere h d l s) where
  two_slots : (t : Bool → Trip → Bool) → stretch_matches t d l s ≡ stretch_matches t d l (in_slot s) ++ stretch_matches t d l (aft_slot s)
  unfolding stretch_matches part_words
  two_slots t =
      let a = get_or d s.from 0 in
      let b = get_or d (after_in s) 0 in
      let c = get_or d s.to 0 in
      ap (keep (t s.sure)) (rows_apart l a b c w.in_there.rises w.aft_there.rises w.whole.room) ∙ keep_append (t s.sure) _ _

  -- where all is known to match the front is all of it, and elsewhere the "in" slot
  looks_meet : (t : Bool → Trip → Bool) (c : Bool) → s.sure ≡ c
      → stretch_matches t d l s ≡ stretch_matches t d l (front_of s) ++ stretch_matches t d l (back_of s)
  looks_meet t true e = rw (front_all s e, bare_none t d l (stretch s.to s.to s.sure) refl, append-nil) refl
  looks_meet t false e = rw (front_in s e) (two_slots t)

  front_at : (c : Bool) → s.sure ≡ c → PartThere d l s.from (front_end s)
  front_at true e = rw (front_all s e) w.whole
  front_at false e = rw (front_in s e) w.in_there

  back_at : (c : Bool) → s.sure ≡ c → PartThere d l (front_end s) s.to
  back_at true e =
      rw (front_all s e) (record { from_in = w.whole.to_in; to_in = w.whole.to_in; rises = omega arith; room = w.whole.room })
  back_at false e = rw (front_in s e) w.aft_there

  two_looks : (t : Bool → Trip → Bool) → stretch_matches t d l s ≡ stretch_matches t d l (front_of s) ++ stretch_matches t d l (back_of s)
  two_looks t = looks_meet t s.sure refl

  front-there : PartThere d l s.from (front_end s)
  front-there = front_at s.sure refl

  back_there : PartThere d l (front_end s) s.to
  back_there = back_at s.sure refl

  front_turns : s.sure ≡ false → InTurn h false (part_words d l s.from (front_end s))
  front_turns e = rw (front_in s e) w.in_order

  back_turns : s.sure ≡ false → InTurn h true (part_words d l (front_end s) s.to)
  back_turns e = rw (front_in s e) w.aft_order

-- ---- the looks of a level

module _ {d o r : List ℕ} {s : Stretches} (w : AllThere d o r s) where
  pub level_looks : (t : Bool → Trip → Bool) → level_matches t d o r s ≡ four_matches t d o r s
  unfolding level_matches joined look_at look_matches four_matches
  level_looks t = rw (two_looks w.first t, two_looks w.last t, two_looks w.replicas t) (simp append_assoc)

  looks-there : (k : ℕ) → k < looks → LookThere d o r (look_at s k)
  unfolding look_at look_words
  looks-there zero h = record { there = front-there w.first; ordered = λ e. starts_rise _ false (front_turns w.first e) }
  looks-there (suc zero) h = record { there = back_there w.first; ordered = λ e. starts_rise _ true (back_turns w.first e) }
  looks-there (suc (suc zero)) h = record { there = w.between; ordered = λ e. tt }
  looks-there (suc (suc (suc zero))) h = record { there = front-there w.last; ordered = λ e. starts_rise _ false (front_turns w.last e) }
  looks-there (suc (suc (suc (suc zero)))) h = record { there = back_there w.last; ordered = λ e. starts_rise _ true (back_turns w.last e) }
  looks-there (suc (suc (suc (suc (suc zero))))) h =
      record { there = front-there w.replicas; ordered = λ e. ends_rise _ (front_turns w.replicas e) }
  looks-there (suc (suc (suc (suc (suc (suc k)))))) h = record { there = back_there w.replicas; ordered = λ e. tt }

  pub level_there : LevelThere d o r s
  level_there = record { there = looks-there; first_between = w.first_between; between_last = w.between_last }

-- ---- which of them have entries

module _ (t : Bool → Trip → Bool) {d o r : List ℕ} {s : Stretches} (w : LevelThere d o r s) where
  -- the words of the directory at the looks never fall, so those of a half are the same where its first and its last are
  originals_bare : get_or d s.first.from 0 ≡ get_or d s.last.to 0 → joined (level_look t d o r s) original_looks ≡ []
  unfolding joined look_at look_matches
  originals_bare e =
      let a = (w.there 0 (omega arith)).there.rises in
      let b = (w.there 1 (omega arith)).there.rises in
      let c = rw (← w.first_between, w.between_last) at (w.there 2 (omega arith)).there.rises in
      let f = (w.there 3 (omega arith)).there.rises in
      let g = (w.there 4 (omega arith)).there.rises in
      rw (
        bare_none t d o (front_of s.first) (omega arith),
        bare_none t d o (back_of s.first) (omega arith),
        bare_none t d o s.between (rw (← w.first_between, w.between_last) (omega arith)),
        bare_none t d o (front_of s.last) (omega arith),
        bare_none t d o (back_of s.last) (omega arith),
      ) refl

  replicas_bare : get_or d s.replicas.from 0 ≡ get_or d s.replicas.to 0
      → joined (level_look t d o r s) looks ≡ joined (level_look t d o r s) original_looks
  unfolding joined look_at look_matches
  replicas_bare e =
      let a = (w.there 5 (omega arith)).there.rises in
      let b = (w.there 6 (omega arith)).there.rises in
      rw (bare_none t d r (front_of s.replicas) (omega arith), bare_none t d r (back_of s.replicas) (omega arith), append-nil, append-nil) refl

  -- so nothing is met before the look from which a level is gone through, and nothing after the look up to which it is
  from_is : (c : Bool) → eqb (get_or d s.first.from 0) (get_or d s.last.to 0) ≡ c → joined (level_look t d o r s) (looks_from s d) ≡ []
  unfolding looks_from joined
  from_is true e = rw e (originals_bare (eqb-true _ _ e))
  from_is false e = rw e refl

  pub none_before : joined (level_look t d o r s) (looks_from s d) ≡ []
  none_before = from_is (eqb (get_or d s.first.from 0) (get_or d s.last.to 0)) refl

  to_is : (c : Bool) → eqb (get_or d s.replicas.from 0) (get_or d s.replicas.to 0) ≡ c
      → joined (level_look t d o r s) (looks_to s d) ≡ level_matches t d o r s
  unfolding looks_to level_matches
  to_is true e = rw e (sym (replicas_bare (eqb-true _ _ e)))
  to_is false e = rw e refl

  pub none_after : joined (level_look t d o r s) (looks_to s d) ≡ level_matches t d o r s
  none_after = to_is (eqb (get_or d s.replicas.from 0) (get_or d s.replicas.to 0)) refl

between : (a b : Bool) → (cond a original_looks 0 ≤ cond b original_looks looks) × (cond b original_looks looks ≤ looks)
between true true = (omega arith, omega arith)
between true false = (omega arith, omega arith)
between false true = (omega arith, omega arith)
between false false = (omega arith, omega arith)

pub from_to : (s : Stretches) (d : List ℕ) → (looks_from s d ≤ looks_to s d) × (looks_to s d ≤ looks)
unfolding looks_from looks_to
from_to s d = between (eqb (get_or d s.first.from 0) (get_or d s.last.to 0)) (eqb (get_or d s.replicas.from 0) (get_or d s.replicas.to 0))

-- ---- the looks one after another

module _ {d o r : List ℕ} {s : Stretches} (w : LevelThere d o r s) where
  -- the words of the directory that tell
  pub originals_in : (s.first.from < length d) × (s.last.to < length d)
  unfolding look_at
  originals_in = ((w.there 0 (omega arith)).there.from_in, (w.there 4 (omega arith)).there.to_in)

  pub replicas_in : (s.replicas.from < length d) × (s.replicas.to < length d)
  unfolding look_at
  replicas_in = ((w.there 5 (omega arith)).there.from_in, (w.there 6 (omega arith)).there.to_in)

  pub next-there : {k to : ℕ} → k < to → to ≡ looks_to s d → LookThere d o r (look_at s k)
  next-there {k} h e = w.there k (omega (arith, (from_to s d).1))
