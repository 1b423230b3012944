-- Stores one after another (`sets` of the library): two runs of stores are one, and one turn of a loop that makes them.
use mathlib.Core.Path.{◌≡◌, sym, ap, ◌∙◌}
use mathlib.Core.List.{List, [], ◌∷◌, ◌++◌}
use Prim.Native.Nat.{ℕ, suc, ◌+◌, ◌<◌}
use native.Mathlib.Nat.{add-zero}
use native.Mathlib.Numerals.{add-one}
use native.Mathlib.Omega.{arith}
use lib.ListN.{length, drop, get_or, set}
use lib.Seq.{sets, drop-cons}

module _ {A : Type 0} where
  pub sets_append : (l : List A) (i : ℕ) (v w : List A) → sets l i (v ++ w) ≡ sets (sets l i v) (i + length v) w
  sets_append l i [] w = rw (add-zero i)
  sets_append l i (x ∷ v) w = let e : suc i + length v ≡ i + suc (length v) = omega arith in sets_append (set l i x) (suc i) v w ∙ rw e

  -- element i of v is stored, and those after it are still to be
  pub sets_turn : (l v : List A) (at i : ℕ) (d : A) → i < length v
      → sets (set l (at + i) (get_or v i d)) (at + (i + 1)) (drop (i + 1) v) ≡ sets l (at + i) (drop i v)
  sets_turn l v at i d h =
      let e : at + (i + 1) ≡ suc (at + i) = omega arith in
      rw (e, add-one i) (sym (ap (sets l (at + i)) (drop-cons v i d h)))
