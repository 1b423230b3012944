-- The fewer of the levels at which a partition can begin with the first cell and of those at which it is no longer than the trip.
use mathlib.Core.Path.{◌≡◌, sym}
use mathlib.Core.Logic.{◌⊎◌, inl, inr}
use Prim.Native.Nat.{ℕ, ◌+◌, ◌^◌, min, ◌≤◌, ◌<◌}
use native.Mathlib.Decide.{dec_le}
use lib.Pow.{pow_mono}
use Rattle.store.proofs.Homes.{home_level_is}
use native.Mathlib.Omega.{arith}
use Rattle.store.proofs.places.home_level.Goals as goal

fewer : (begun spanned trailing cells : ℕ) → begun ≡ trailing → cells < 2 ^ (spanned + 1) → (trailing ≡ min begun spanned) ⊎ (cells < 2 ^ (min begun spanned + 1))
fewer begun spanned trailing cells e h = elim (dec_le begun spanned) [
  | yes l ↦ inl (omega arith)
  | no l ↦ let s : min begun spanned ≡ spanned = omega arith in inr (rw s h)
]

pub returns : goal.returns
returns c =
    let a = c.args.a in
    let b = c.args.b in
    let begun = c.levels_begun-begun in
    let spanned = c.levels_spanned-spanned in
    let k : ℕ = min begun.result spanned.result in
    let less : k ≤ spanned.result = omega arith in
    rw (c.level.ensures, c.min.ensures) (sym (home_level_is a.0 a.1 b.1 k c.requires.2 (omega (arith, begun.ensures))
    (omega (arith, spanned.ensures.0, pow_mono less)) (fewer begun.result spanned.result _ _ begun.ensures spanned.ensures.1)))
