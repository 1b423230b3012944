-- The codes and the relationships that they name, both ways; and that a code names nothing exactly where it is above 13.
use Rattle.std.proofs.Common.{None, Some}
use mathlib.Core.Path.{◌≡◌, refl}
use mathlib.Core.Bool.{true}
use Prim.Native.Nat.{ℕ}
use lib.Dec.{ltb}
use lib.ListN.{get_or-eq_default}
use borrow.Author.Tests.{ltb-true}
use Rattle.trip.specs.declared.Relationship.{Relationship}
use Rattle.trip.specs.declared.Relationship.TheVariants.{Equals, Starts, StartedBy, Finishes, FinishedBy, Meets, MetBy, Overlaps, OverlappedBy, Contains, ContainedBy, Before, After, GOverlaps}
use Rattle.trip.specs.Relationships.{code_of, last_code, in_order, named}

pub named_code : (r : Relationship) → named (code_of r) ≡ Some r
unfolding code_of
named_code Equals = refl
named_code Starts = refl
named_code StartedBy = refl
named_code Finishes = refl
named_code FinishedBy = refl
named_code Meets = refl
named_code MetBy = refl
named_code Overlaps = refl
named_code OverlappedBy = refl
named_code Contains = refl
named_code ContainedBy = refl
named_code Before = refl
named_code After = refl
named_code GOverlaps = refl

pub named_nothing : (code : ℕ) → ltb last_code code ≡ true → named code ≡ None
named_nothing code e = get_or-eq_default in_order None {n = code} (ltb-true last_code code e)
