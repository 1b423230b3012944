-- Lists of a table's trips, no trip in two of them, are together without an id twice.
use mathlib.Core.List.Memᴰ.{cast as Mem·cast}
use mathlib.Core.List.{List, ◌++◌, Memᴰ as Mem}
use Prim.Native.Nat.{ℕ, ◌<◌}
use native.Mathlib.Omega.{arith}
use Rattle.lists.specs.Lists.{joined}
use Rattle.lists.proofs.Members.{In, pairs_append, pairs_joined}
use Rattle.trip.specs.declared.Trip.{Trip}
use Rattle.layout.proofs.RowOrder.{Distinct}
use Rattle.layout.proofs.SlotMembers.{same_id}

module _ {ts : List Trip} (d : Distinct ts) where
  pub apart-append : {l k : List Trip} → In l ts → In k ts → Distinct l → Distinct k → ((x : Trip) → Mem x l → Mem x k → ⊥) → Distinct (l ++ k)
  apart-append il ik dl dk h = pairs_append dl dk (λ x y mx my e. h x mx (Mem·cast (same_id d x y (il x mx) (ik y my) e) my))

  pub apart-joined : (f : ℕ → List Trip) (n : ℕ) → ((k : ℕ) → k < n → In (f k) ts) → ((k : ℕ) → k < n → Distinct (f k))
      → ((j k : ℕ) → j < k → k < n → (x : Trip) → Mem x (f j) → Mem x (f k) → ⊥) → Distinct (joined f n)
  apart-joined f n i each h =
      pairs_joined f n each
      (λ j k jk kn x y mx my e. h j k jk kn x mx (Mem·cast (same_id d x y (i j (omega arith) x mx) (i k kn y my) e) my))
