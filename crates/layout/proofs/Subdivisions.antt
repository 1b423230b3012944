-- The subdivisions: their numbers and what they name, their halves and sides, and back.
use mathlib.Core.Path.{◌≡◌, refl}
use mathlib.Core.Bool.{Bool, true, false}
use Rattle.layout.specs.declared.Half.{Half}
use Rattle.layout.specs.declared.Half.TheVariants.{Originals, Replicas}
use Rattle.layout.specs.declared.Subdivision.{Subdivision}
use Rattle.layout.specs.declared.Subdivision.TheVariants.{OIn, OAft, RIn, RAft}
use Rattle.layout.specs.Stored.{subdivision_of}
use Rattle.layout.specs.Answers.{subdivision_number, subdivision_numbered, half_of, is_aft}

pub numbered_subdivision : (d : Subdivision) → subdivision_numbered (subdivision_number d) ≡ d
unfolding subdivision_numbered subdivision_number
numbered_subdivision OIn = refl
numbered_subdivision OAft = refl
numbered_subdivision RIn = refl
numbered_subdivision RAft = refl

pub of_half_and_side : (d : Subdivision) → subdivision_of (half_of d) (is_aft d) ≡ d
unfolding subdivision_of half_of is_aft
of_half_and_side OIn = refl
of_half_and_side OAft = refl
of_half_and_side RIn = refl
of_half_and_side RAft = refl

pub half_of_lem : (h : Half) (aft : Bool) → half_of (subdivision_of h aft) ≡ h
unfolding subdivision_of half_of
half_of_lem Originals true = refl
half_of_lem Originals false = refl
half_of_lem Replicas true = refl
half_of_lem Replicas false = refl
