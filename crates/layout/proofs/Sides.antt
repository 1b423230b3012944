-- The two sides of a subdivision: which half it is of, and whether it is the "aft" slot of its partition; and slots counted by twos.
use mathlib.Core.Path.{◌≡◌, refl}
use mathlib.Core.Bool.{Bool, true, false, not}
use Prim.Native.Nat.{ℕ, ◌+◌, ◌*◌, ◌/◌, ◌%◌, ◌<◌}
use native.Mathlib.Omega.{arith}
use lib.Dec.{T, eqb}
use borrow.Author.Tests.{eqb-true, eqb-false}
use Rattle.lists.proofs.Tests.{of_and, of_T, of_not_T}
use Rattle.layout.specs.declared.Half.{Half}
use Rattle.layout.specs.declared.Half.TheVariants.{Originals, Replicas}
use Rattle.layout.specs.Stored.{subdivision_of, is_of}

-- the half is that of the originals
unfoldable pub of_originals : Half → Bool
of_originals Originals = true
of_originals Replicas = false

-- an entry is of the subdivision exactly where it is original or not as the half says, and "in" or not as the slot says
pub of_is_of : (h : Half) (aft o e : Bool) → T (is_of (subdivision_of h aft) o e) → (o ≡ of_originals h) × (e ≡ not aft)
unfolding is_of subdivision_of of_originals
of_is_of Originals false o e t = let w = of_and o e t in (of_T o w.0, of_T e w.1)
of_is_of Originals true o e t = let w = of_and o (not e) t in (of_T o w.0, of_not_T e w.1)
of_is_of Replicas false o e t = let w = of_and (not o) e t in (of_not_T o w.0, of_T e w.1)
of_is_of Replicas true o e t = let w = of_and (not o) (not e) t in (of_not_T o w.0, of_not_T e w.1)

pub to_is_of : (h : Half) (aft o e : Bool) → o ≡ of_originals h → e ≡ not aft → T (is_of (subdivision_of h aft) o e)
unfolding is_of subdivision_of of_originals
to_is_of Originals false o e p q = rw (p, q) tt
to_is_of Originals true o e p q = rw (p, q) tt
to_is_of Replicas false o e p q = rw (p, q) tt
to_is_of Replicas true o e p q = rw (p, q) tt

-- the slot of an entry in its partition: 0 where it is "in", 1 where it is "aft"
unfoldable pub side : (is_in : Bool) → ℕ
side true = 0
side false = 1

pub side_lt : (e : Bool) → side e < 2
unfolding side
side_lt true = omega arith
side_lt false = omega arith

-- so slot 2 × i + side is one of partition i, on that side
pub side_slot : (e : Bool) (i : ℕ) → (e ≡ not (eqb ((2 * i + side e) % 2) 1)) × ((2 * i + side e) / 2 ≡ i)
unfolding side
side_slot true i = let h : (2 * i + 0) % 2 ≡ 0 = omega arith in (rw h, omega arith)
side_slot false i = let h : (2 * i + 1) % 2 ≡ 1 = omega arith in (rw h, omega arith)

-- two slots of one partition on the same side are one slot
pub same-slot : (j k : ℕ) → not (eqb (j % 2) 1) ≡ not (eqb (k % 2) 1) → j / 2 ≡ k / 2 → j ≡ k
same-slot j k e h = go (eqb (j % 2) 1) (eqb (k % 2) 1) refl refl e
  where
    go : (a b : Bool) → eqb (j % 2) 1 ≡ a → eqb (k % 2) 1 ≡ b → not a ≡ not b → j ≡ k
    go true true p q z = let x = eqb-true (j % 2) 1 p in let y = eqb-true (k % 2) 1 q in omega arith
    go true false p q z = let n : ◌≡◌ {A = ℕ} 0 1 = cc in absurd (omega arith)
    go false true p q z = let n : ◌≡◌ {A = ℕ} 0 1 = cc in absurd (omega arith)
    go false false p q z =
        let x : j % 2 ≡ 1 → ⊥ = eqb-false (j % 2) 1 p in
        let y : k % 2 ≡ 1 → ⊥ = eqb-false (k % 2) 1 q in
        omega arith
