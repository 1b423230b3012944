-- A code names nothing only where it is above the last code.
use Rattle.std.proofs.Common.{None, Option, Some}
use mathlib.Core.Path.{◌≡◌, refl, sym, ◌∙◌}
use mathlib.Core.Bool.{Bool, true, false}
use mathlib.Core.List.{List, [], ◌∷◌}
use Prim.Native.Nat.{ℕ, zero, suc, ◌≤◌}
use native.Mathlib.Omega.{arith}
use lib.Dec.{ltb}
use lib.ListN.{length, get_or}
use borrow.Author.Tests.{lt-ltb, ltb-true}
use Rattle.trip.specs.declared.Relationship.{Relationship}
use Rattle.trip.specs.Relationships.{last_code, in_order, named}
use Rattle.trip.proofs.Codes.{named_nothing}

-- every one of a list names a relationship
data Every : List (Option Relationship) → Type 0 where
  none : Every []
  more : {r : Relationship} {l : List (Option Relationship)} → Every l → Every (Some r ∷ l)

never : {A : Type 0} {r : Relationship} → Some r ≡ None → A
never e = let z : ◌≡◌ {A = ℕ} 0 1 = cc in absurd (omega arith)

past : {l : List (Option Relationship)} → Every l → (k : ℕ) → get_or l k None ≡ None → length l ≤ k
past none k e = omega arith
past (more a) zero e = never e
past (more a) (suc k) e = let h = past a k e in omega arith

all_named : Every in_order
all_named = more (more (more (more (more (more (more (more (more (more (more (more (more (more none)))))))))))))

pub nothing_above : (code : ℕ) → named code ≡ None → ltb last_code code ≡ true
nothing_above code e = lt-ltb last_code code (past all_named code e)

pub named-within : (code : ℕ) {r : Relationship} → named code ≡ Some r → ltb last_code code ≡ false
named-within code {r} e = go (ltb last_code code) (named_nothing code)
  where
    go : (b : Bool) → (b ≡ true → named code ≡ None) → b ≡ false
    go true h = never (sym e ∙ h refl)
    go false h = refl

-- and a code up to the last names a relationship
pub code_names : (code : ℕ) → code ≤ last_code → (r : Relationship) × (named code ≡ Some r)
code_names code h = go (named code) refl
  where
    go : (what : Option Relationship) → named code ≡ what → (r : Relationship) × (named code ≡ Some r)
    go (Some r) e = (r, e)
    go None e = absurd (omega (arith, ltb-true last_code code (nothing_above code e)))
