-- What a ruler of C names: the numbers that its maker was given. A value of another kind names no ruler.
use mathlib.Core.Path.{◌≡◌, refl, ap, ◌∙◌}
use mathlib.Core.Bool.{false}
use Prim.Native.Nat.{ℕ}
use borrow.Author.Tests.{ne_eqb}
use Rattle.ruler.specs.declared.Numbers.{Numbers}
use Rattle.ruler.specs.declared.Numbers.TheVariants.{Bits, Spread}
use Rattle.ruler.specs.Ruler.{in_bounds, scale_of}
use Rattle.ruler.proofs.Fair.{scale-good}
use Rattle.export.specs.declared.NamedRuler.{NamedRuler}
use Rattle.export.specs.Said.{bits_kind, spread_kind, no_width, bits_named, spread_named, numbers_named}

pub bits_named_lem : (w m : ℕ) → numbers_named (bits_named w m) ≡ Bits w m
unfolding numbers_named
bits_named_lem w m = refl

pub spread-named : (m lo hi : ℕ) → numbers_named (spread_named m lo hi) ≡ Spread m lo hi
unfolding numbers_named
spread-named m lo hi = refl

no_such_width : (m : ℕ) → in_bounds (Bits no_width m) ≡ false
unfolding in_bounds
no_such_width m = refl

module _ (r : NamedRuler) (no_bits : r.kind ≡ bits_kind → ⊥) (no-spread : r.kind ≡ spread_kind → ⊥) where
  pub other_kinds : numbers_named r ≡ Bits no_width r.m
  unfolding numbers_named
  other_kinds = rw (ne_eqb r.kind bits_kind no_bits, ne_eqb r.kind spread_kind no-spread) refl

  -- every call judges first whether the ruler is good, and refuses it with 1 where it isn't
  pub other_kinds_refused : (scale_of (numbers_named r)).good ≡ false
  other_kinds_refused = ap (λ (n : Numbers). (scale_of n).good) other_kinds ∙ scale-good (Bits no_width r.m) ∙ no_such_width r.m
