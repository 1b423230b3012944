-- The slots of a half, level by level.
use mathlib.Core.Path.{◌≡◌, refl, subst}
use mathlib.Core.Bool.{Bool, true, false}
use mathlib.Core.List.{List, []}
use Prim.Native.Nat.{ℕ, ◌+◌, ◌-◌, ◌*◌, ◌/◌, ◌^◌, ◌≤◌, ◌<◌}
use native.Mathlib.Nat.{two-pow-succ}
use native.Mathlib.Numerals.{add-one}
use native.Mathlib.Decide.{dec_lt}
use native.Mathlib.Omega.{arith}
use lib.Dec.{T}
use lib.ListN.{length, get_or, drop, length-drop}
use lib.Seq.{length-take-le}
use lib.Pow.{pow_pos}
use Rattle.lists.proofs.Tests.{to_T, of_T}
use Rattle.ruler.specs.Ruler.{Scale}
use Rattle.layout.specs.declared.Half.{Half}
use Rattle.layout.specs.Words.{entry_words, partitions, partition_number, half_length}
use Rattle.layout.proofs.Numbers.{number_lt}
use Rattle.store.specs.Parts.{part_words, PartThere}
use Rattle.verify.specs.Passing.{below}
use Rattle.verify.specs.Local.{half_ok, slot_at, slot_ok, first_slot, level_ok, slots_ok}
use Rattle.verify.proofs.Passing.{of_below, to_below}
use Rattle.verify.proofs.LoopTurns.{row_empty}
use Rattle.verify.proofs.SlotsCut.{Cut, of_half, rises_to}

-- ---- numbers of slots

next_first : (L : ℕ) → first_slot (L + 1) ≡ first_slot L + 2 * 2 ^ L
next_first L = rw add-one (omega (arith, two-pow-succ L, pow_pos L))

-- slot j of level L is one of partition j / 2, and one of the half
pub slot_number_lem : (L j : ℕ) → (first_slot L + j) / 2 ≡ partition_number L (j / 2)
unfolding partition_number
slot_number_lem L j = omega arith

pub slot_lt : (m L j : ℕ) → L ≤ m → j < 2 * 2 ^ L → first_slot L + j < 2 * partitions m
slot_lt m L j h l = omega (arith, slot_number_lem L j, number_lt m L (j / 2) h (omega arith))

-- a level's last word is one of its half's
pub level_in : (m L : ℕ) → L ≤ m → first_slot L + 2 * 2 ^ L < half_length m
unfolding half_length
level_in m L h = omega (arith, pow_pos L, slot_lt m L (2 * 2 ^ L - 1) h (omega (arith, pow_pos L)))

-- the entries of a slot are as many as its two words say
pub part_count : (dir arena : List ℕ) (k : ℕ) → PartThere dir arena k (k + 1)
    → length (part_words dir arena k (k + 1)) / entry_words ≡ get_or dir (k + 1) 0 - get_or dir k 0
unfolding part_words
part_count dir arena k w =
    let a = entry_words * get_or dir k 0 in
    let b = entry_words * get_or dir (k + 1) 0 in
    let rises = w.rises in
    let room = w.room in
    rw (length-take-le (b - a) (drop a arena) (rw length-drop (omega arith))) (omega arith)

-- ---- what has no entry passes

pub slot_empty : (s : Scale) (h : Half) (dir arena : List ℕ) (k : ℕ) → get_or dir k 0 ≡ get_or dir (k + 1) 0 → slot_ok s h k (slot_at dir arena k) ≡ true
unfolding slot_ok slot_at part_words
slot_empty s h dir arena k e =
    let none : entry_words * get_or dir (k + 1) 0 - entry_words * get_or dir k 0 ≡ 0 = omega arith in
    rw none (row_empty [] _ _ refl)

module _ (s : Scale) (h : Half) (dir arena : List ℕ) where
  abbrev pub passes : ℕ → Bool
  passes k = slot_ok s h k (slot_at dir arena k)

  pub level_more : (L : ℕ) → below passes (first_slot L) ≡ true → level_ok s h L dir arena ≡ true → below passes (first_slot (L + 1)) ≡ true
  unfolding level_ok
  level_more L e q = of_T _ (to_below passes (first_slot (L + 1)) (λ k l. go k (dec_lt k (first_slot L)) (omega (arith, next_first L))))
    where
      go : (k : ℕ) → Dec (k < first_slot L) → k < first_slot L + 2 * 2 ^ L → T (passes k)
      go k (yes l) u = of_below passes (first_slot L) (to_T e) k l
      go k (no l) u =
          let back : first_slot L + (k - first_slot L) ≡ k = omega arith in
          subst (λ (i : ℕ). T (passes i)) back (of_below (λ j. passes (first_slot L + j)) (2 * 2 ^ L) (to_T q) (k - first_slot L) (omega arith))

  module _ (long : length dir ≡ half_length s.m) where
    pub level_empty : half_ok dir arena ≡ true → (L : ℕ) → L ≤ s.m → get_or dir (first_slot L) 0 ≡ get_or dir (first_slot L + 2 * 2 ^ L) 0
        → level_ok s h L dir arena ≡ true
    unfolding level_ok half_length
    level_empty ok L l e =
        let n = 2 * partitions s.m in
        let c : Cut dir arena n = of_half dir arena n long (to_T ok) in
        let a = first_slot L in
        let last = slot_lt s.m L (2 * 2 ^ L - 1) l (omega (arith, pow_pos L)) in
        of_T _ (to_below _ (2 * 2 ^ L) (λ j i.
        let start = rises_to dir arena n c a (a + j) (omega arith) (omega arith) in
        let step = c.up (a + j) (omega arith) in
        let rest = rises_to dir arena n c (a + j + 1) (a + 2 * 2 ^ L) (omega arith) (omega arith) in
        to_T (slot_empty s h dir arena (a + j) (omega arith))))

    pub level_stop : (L : ℕ) → L ≤ s.m → level_ok s h L dir arena ≡ false → slots_ok s h dir arena ≡ false
    unfolding level_ok slots_ok half_length
    level_stop L l q = go (below passes (length dir - 1)) refl
      where
        go : (b : Bool) → below passes (length dir - 1) ≡ b → b ≡ false
        go false e = refl
        go true e = absurd (rw q at (to_below (λ j. passes (first_slot L + j)) (2 * 2 ^ L) (λ j i.
            of_below passes (length dir - 1) (to_T e) (first_slot L + j) (omega (arith, slot_lt s.m L j l i)))))

    pub level_end : (L : ℕ) → L ≡ s.m + 1 → below passes (first_slot L) ≡ true → slots_ok s h dir arena ≡ true
    unfolding slots_ok half_length partitions
    level_end L l e = let all : first_slot L ≡ length dir - 1 = rw l (omega arith) in rw all at e
