-- The loop that writes the slots of a trip: what is written and what the rest of the walk will write are, together, the whole walk.
use mathlib.Core.Path.{◌≡◌, refl, sym, ap, ◌∙◌}
use mathlib.Core.List.{List, [], ◌∷◌, ◌++◌, append_assoc}
use Prim.Native.Nat.{ℕ, suc, ◌+◌, ◌-◌, ◌*◌, ◌/◌, ◌%◌, ◌^◌, ◌≤◌, ◌<◌}
use native.Mathlib.Nat.{two-pow-succ}
use native.Mathlib.Numerals.{add-one}
use native.Mathlib.Omega.{arith}
use lib.Dec.{eqb}
use lib.ListN.{length, set, length-append}
use lib.Seq.{sets, sets-eq, length-sets}
use borrow.Author.Tests.{lt-ltb}
use Rattle.lists.proofs.Stores.{sets_append}
use Rattle.ruler.specs.declared.Cell.{Cell}
use Rattle.ruler.specs.Ruler.{deepest, next_cell, cell_above}
use Rattle.layout.specs.declared.Half.{Half}
use Rattle.lists.specs.Lists.{over}
use Rattle.store.specs.TripWalk.{visit, walk, slots_of}
use Rattle.store.proofs.TripWalk.{visit-few, walk-few, walk_ends, walk_none}
use Rattle.store.specs.TripSlots.{most_slots, Level, Wrote, visits_at}

-- a run of stores at the front
pub sets_over : (l v : List ℕ) → length v ≤ length l → sets l 0 v ≡ over v l
unfolding over
sets_over l v h = let e : 0 + length v ≡ length v = omega arith in sets-eq v l 0 (rw e h) ∙ rw e

-- the walk has n slots written and the levels below `level` left, of which the partitions lo .. hi - 1 lie in the trip's cells
-- one word over the first
pub set_first : (l : List ℕ) (x : ℕ) → 0 < length l → set l 0 x ≡ over (x ∷ []) l
unfolding over
set_first [] x h = absurd (omega arith)
set_first (y ∷ l) x h = refl

pub record Walking (half : Half) (spots₀ spots : List ℕ) (n level lo hi ca cb : ℕ) (whole : List ℕ) : Type 0 where
  pub all : sets spots n (walk half level lo hi ca cb) ≡ sets spots₀ 0 whole
  pub many : n + length (walk half level lo hi ca cb) ≡ length whole
  pub long : length spots ≡ length spots₀
  pub room : n + 2 * level ≤ length spots₀
  pub few : level ≤ suc deepest
  pub inside : hi * 2 ≤ 2 ^ level

pub walking_start : (half : Half) (spots : List ℕ) (level lo hi ca cb : ℕ) → 2 * level ≤ length spots → level ≤ suc deepest → hi * 2 ≤ 2 ^ level
    → Walking half spots spots 0 level lo hi ca cb (walk half level lo hi ca cb)
walking_start half spots level lo hi ca cb r f i = record { all = refl; many = omega arith; long = refl; room = omega arith; few = f; inside = i }

-- the visits of a level, from one end of the partitions that lie in the trip's cells and from the other
visits : Half → (L lo hi ca cb : ℕ) → List ℕ
visits half L lo hi ca cb = visit half (eqb (lo % 2) 1) L lo ca cb ++ visit half (eqb (hi % 2) 1) L (hi / 2 * 2) ca cb

visits_few : (half : Half) (L lo hi ca cb : ℕ) → length (visits half L lo hi ca cb) ≤ 2
unfolding visits
visits_few half L lo hi ca cb = omega (
  arith,
  length-append (visit half (eqb (lo % 2) 1) L lo ca cb) (visit half (eqb (hi % 2) 1) L (hi / 2 * 2) ca cb),
  visit-few half (eqb (lo % 2) 1) L lo ca cb,
  visit-few half (eqb (hi % 2) 1) L (hi / 2 * 2) ca cb,
)

-- one level of the walk, with some partitions left
walk_level : (half : Half) (L lo hi ca cb : ℕ) → lo < hi
    → walk half (suc L) lo hi ca cb ≡ visits half L lo hi ca cb ++ walk half L ((lo + 1) / 2) (hi / 2) (ca / 2) (cb / 2)
unfolding walk visits
walk_level half L lo hi ca cb h = rw (lt-ltb lo hi h, append_assoc)

-- as many words as before
pub wrote_long : {v spots spots₁ : List ℕ} {n n₁ : ℕ} → Wrote v spots n n₁ spots₁ → length spots₁ ≡ length spots
wrote_long {v} {spots} {spots₁} {n} e = ap length e.words ∙ length-sets spots n v

-- one run of slots behind another
pub wrote_both : {v u spots spots₁ spots₂ : List ℕ} {n n₁ n₂ : ℕ} → Wrote v spots n n₁ spots₁ → Wrote u spots₁ n₁ n₂ spots₂
    → Wrote (v ++ u) spots n n₂ spots₂
wrote_both {v} {u} {spots} {spots₁} {spots₂} {n} e f = record {
  many = omega (arith, e.many, f.many, length-append v u);
  words = f.words ∙ rw (e.many, e.words) (sym (sets_append spots n v u));
}

module _ {half : Half} {spots₀ spots : List ℕ} {n level lo hi ca cb : ℕ} {whole : List ℕ}
    (w : Walking half spots₀ spots n level lo hi ca cb whole) where
  -- a level's visits
  walking_turn : (spots₁ : List ℕ) (n₁ : ℕ) → 0 < level → lo < hi
      → Wrote (visits half (level - 1) lo hi ca cb) spots n n₁ spots₁
      → Walking half spots₀ spots₁ n₁ (level - 1) ((lo + 1) / 2) (hi / 2) (ca / 2) (cb / 2) whole
  walking_turn spots₁ n₁ h l e =
      let L = level - 1 in
      let v = visits half L lo hi ca cb in
      let rest = walk half L ((lo + 1) / 2) (hi / 2) (ca / 2) (cb / 2) in
      let up : level ≡ suc L = omega arith in
      let now : walk half level lo hi ca cb ≡ v ++ rest = ap (λ (k : ℕ). walk half k lo hi ca cb) up ∙ walk_level half L lo hi ca cb l in
      let split : sets spots n (v ++ rest) ≡ sets spots₁ n₁ rest = sets_append spots n v rest ∙ rw (← e.many, ← e.words) in
      let pow : 2 ^ level ≡ 2 ^ L + 2 ^ L = ap (λ (k : ℕ). 2 ^ k) up ∙ two-pow-succ L in
      let inside = w.inside in
      record {
        all = sym split ∙ ap (sets spots n) (sym now) ∙ w.all;
        many = omega (arith, e.many, w.many, ap length now, length-append v rest);
        long = wrote_long e ∙ w.long;
        room = omega (arith, e.many, w.room, visits_few half L lo hi ca cb);
        few = omega (arith, w.few);
        inside = omega arith;
      }

  -- with no partition or no level left, the whole is written
  pub walking_end : walk half level lo hi ca cb ≡ [] → length whole ≤ length spots₀ → (n ≡ length whole) × (spots ≡ over whole spots₀)
  walking_end e h =
      let none = ap length e in
      (omega (arith, w.many), ap (sets spots n) (sym e) ∙ w.all ∙ sets_over spots₀ whole h)

  pub walking_fits : length whole ≤ length spots₀
  walking_fits = omega (arith, w.many, w.room, walk-few half level lo hi ca cb)

-- half of a level's partitions
pub halved : (hi level : ℕ) → 0 < level → hi * 2 ≤ 2 ^ level → hi ≤ 2 ^ (level - 1)
halved hi level p h = let e : level ≡ suc (level - 1) = omega arith in omega (arith, ap (λ (k : ℕ). 2 ^ k) e ∙ two-pow-succ (level - 1))

-- a bound of them, one level up
pub half_more : (from level : ℕ) → 0 < level → from ≤ 2 ^ level → (from + 1) / 2 ≤ 2 ^ (level - 1)
half_more from level p h = let e : level ≡ suc (level - 1) = omega arith in
    omega (arith, ap (λ (k : ℕ). 2 ^ k) e ∙ two-pow-succ (level - 1))

-- ---- the walk over cells: n slots are written, and at a level the partitions from lo on, up to hi, lie in the trip's cells, there first .. last

pub record Going (half : Half) (spots₀ spots : List ℕ) (n : ℕ) (lo hi first last : Cell) (whole : List ℕ) : Type 0 where
  pub walking : Walking half spots₀ spots n (lo.0 + 1) lo.1 hi.1 first.1 last.1 whole
  pub high_level : hi.0 ≡ lo.0
  pub first_level : first.0 ≡ lo.0
  pub last_level : last.0 ≡ lo.0

pub going_start : (half : Half) (a b : Cell) (spots : List ℕ) → a.0 ≤ deepest → b.0 ≡ a.0 → b.1 < 2 ^ a.0 → most_slots ≤ length spots
    → Going half spots spots 0 a (next_cell b) a b (slots_of half a.0 a.1 b.1)
unfolding slots_of
going_start half a b spots d e l r =
    let inside : 2 ^ (a.0 + 1) ≡ 2 ^ a.0 + 2 ^ a.0 = rw add-one (two-pow-succ a.0) in
    let start = walking_start half spots (a.0 + 1) a.1 (b.1 + 1) a.1 b.1 (omega arith) (omega arith) (omega arith) in
    record { walking = rw (← add-one a.0) start; high_level = e; first_level = refl; last_level = e }

module _ {half : Half} {spots₀ spots : List ℕ} {n : ℕ} {lo hi first last : Cell} {whole : List ℕ}
    (g : Going half spots₀ spots n lo hi first last whole) where
  pub going_level : lo.1 < hi.1 → (n + 2 ≤ length spots) × Level lo hi first last
  going_level l =
      let w = g.walking in
      let e : lo.0 + 1 - 1 ≡ lo.0 = omega arith in
      let high : hi.1 ≤ 2 ^ lo.0 = rw e at (halved hi.1 (lo.0 + 1) (omega arith) w.inside) in (
        omega (arith, w.long, w.room),
        record {
          deep = omega (arith, w.few);
          high_level = g.high_level;
          first_level = g.first_level;
          last_level = g.last_level;
          low = omega arith;
          high = high;
        },
      )

  -- with no partition left
  pub going_none : hi.1 ≤ lo.1 → (n ≡ length whole) × (spots ≡ over whole spots₀)
  going_none l = walking_end g.walking (walk_ends _ _ _ _ _ _ l) (walking_fits g.walking)

  module _ (spots₁ : List ℕ) (n₁ : ℕ) (l : lo.1 < hi.1) (e : Wrote (visits_at half lo hi first last) spots n n₁ spots₁) where
    turned : Walking half spots₀ spots₁ n₁ lo.0 ((lo.1 + 1) / 2) (hi.1 / 2) (first.1 / 2) (last.1 / 2) whole
    unfolding visits_at visits
    turned =
        let z : lo.0 + 1 - 1 ≡ lo.0 = omega arith in
        rw z at (walking_turn g.walking spots₁ n₁ (omega arith) l (rw z (rw g.high_level at e)))

    pub going_turn : 0 < lo.0
        → Going half spots₀ spots₁ n₁ (cell_above (next_cell lo)) (cell_above hi) (cell_above first) (cell_above last) whole
    going_turn h =
        let more : lo.0 - 1 + 1 ≡ lo.0 = omega arith in
        record {
          walking = rw more turned;
          high_level = rw g.high_level;
          first_level = rw g.first_level;
          last_level = rw g.last_level;
        }

    -- after level 0
    pub going_end : lo.0 ≡ 0 → (n₁ ≡ length whole) × (spots₁ ≡ over whole spots₀)
    going_end z = walking_end turned (rw z (walk_none _ _ _ _ _)) (walking_fits turned)
