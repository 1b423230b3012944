-- The slots of a trip as the code has them: the front of a lent list.
use mathlib.Core.Path.{◌≡◌, sym, ap}
use mathlib.Core.List.{List}
use Prim.Native.Nat.{ℕ, ◌-◌, ◌≤◌}
use native.Mathlib.Omega.{arith}
use lib.ListN.{length, take, drop, length-append}
use lib.Seq.{take_at}
use Rattle.lists.specs.Lists.{over}

-- the first n words of a list that a list of n words is written over
pub over-inside : (n : ℕ) (l k m : List ℕ) → n ≡ length l → m ≡ over l k → n ≤ length m
unfolding over
over-inside n l k m e q = omega (arith, ap length q, length-append l (drop (length l) k))

pub over-front : (n : ℕ) (l k m : List ℕ) → n ≡ length l → m ≡ over l k → take (n - 0) m ≡ l
unfolding over
over-front n l k m e q = let z : n - 0 ≡ n = omega arith in rw (z, q) (take_at l (drop (length l) k) n (sym e))
