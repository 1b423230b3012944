-- Laws of places and parts: where a byte is, and the first of the parts with those after it.
-- Assumes nothing.
use mathlib.Core.Path.{◌≡◌, refl}
use mathlib.Core.Bool.{Bool, true, false, cond}
use mathlib.Core.List.{List, [], ◌∷◌}
use Prim.Native.Nat.{ℕ, suc, ◌≤◌}
use native.Mathlib.Numerals.{one-add}
use native.Mathlib.Omega.{arith}
use lib.Dec.{eqb}
use Rattle.std.specs.Prelude.{not}
use Rattle.std.specs.List.{prefix_len}
use Rattle.std.proofs.lemmas.List.Recursion.{is_position_or_len}
use lib.ListN.{length, take, drop, length-drop}
use Rattle.text.specs.Bytes.{until, place_of, on_first, parted}

-- ---- The first place of a byte

pub until-within : (s : ℕ) (l : List ℕ) → until s l ≤ length l
unfolding until
until-within s [] = omega arith
until-within s (b ∷ l) = go (eqb b s) (until-within s l)
  where
    go : (t : Bool) → until s l ≤ length l → cond t 0 (suc (until s l)) ≤ suc (length l)
    go true h = omega arith
    go false h = omega arith

-- so many bytes are not s
pub until-prefix : (s : ℕ) (l : List ℕ) → until s l ≡ prefix_len (λ b. not (eqb b s)) l
unfolding until
until-prefix s = is_position_or_len (until s) (λ b. eqb b s) refl (λ b l. rw one-add)

pub place_within : (s : ℕ) (l : List ℕ) (i : ℕ) → i ≤ length l → place_of s l i ≤ length l
unfolding place_of
place_within s l i h = omega (arith, until-within s (drop i l), length-drop i l)

-- ---- The first part

-- the parts after the first
unfoldable pub later_parts : ℕ → List ℕ → List (List ℕ)
later_parts s [] = []
later_parts s (b ∷ l) = cond (eqb b s) (parted s l) (later_parts s l)

pub parted_first : (s : ℕ) (l : List ℕ) → parted s l ≡ take (until s l) l ∷ later_parts s l
unfolding until parted later_parts
parted_first s [] = refl
parted_first s (b ∷ l) = go (eqb b s) (parted_first s l)
  where
    go : (t : Bool) → parted s l ≡ take (until s l) l ∷ later_parts s l
        → cond t ([] ∷ parted s l) (on_first b (parted s l))
        ≡ take (cond t 0 (suc (until s l))) (b ∷ l) ∷ cond t (parted s l) (later_parts s l)
    go true e = refl
    go false e = rw e
