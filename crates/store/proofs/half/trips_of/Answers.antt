-- The last of the first 2P + 1 words.
use mathlib.Core.Path.{◌≡◌, ap, ◌∙◌}
use Prim.Native.Nat.{ℕ, ◌+◌, ◌-◌, ◌*◌}
use lib.ListN.{take}
use lib.Seq.{length-take-le}
use Rattle.layout.specs.Words.{partitions, half_length}
use Rattle.store.specs.Halves.{total}
use Rattle.store.proofs.Halves.{total_first}
use native.Mathlib.Omega.{arith}
use Rattle.store.proofs.half.trips_of.Goals as goal

pub slice_bounds-entries_of-end : goal.slice_bounds-entries_of-end
unfolding half_length
slice_bounds-entries_of-end c =
    let words_are : c.half_length-half.result ≡ 2 * partitions c.args.m + 1 = c.half_length-half.ensures in
    omega (arith, words_are)

pub entries_of-requires : goal.entries_of-requires
unfolding half_length
entries_of-requires c =
    let words_are : c.half_length-half.result ≡ 2 * partitions c.args.m + 1 = c.half_length-half.ensures in
    let h = c.half_length-half.result in
    omega (
      arith,
      words_are,
      length-take-le (h - 0) c.args.directory.now (omega (
        arith,
        words_are,
      )),
    )

pub returns : goal.returns
unfolding half_length
returns c =
    let words_are : c.half_length-half.result ≡ 2 * partitions c.args.m + 1 = c.half_length-half.ensures in
    let a = c.args in
    let h = c.half_length-half.result in
    let e : h - 0 ≡ 2 * partitions a.m + 1 = omega (arith, words_are) in
    c.entries_of.ensures ∙ ap (λ (k : ℕ). total (take k a.directory.now)) e
    ∙ total_first a.directory.now (2 * partitions a.m) c.requires.1
