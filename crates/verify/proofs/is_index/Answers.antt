-- The two halves of the directory, and the law that the local tests are the definition's.
use mathlib.Core.Path.{◌≡◌, sym, ap, ◌∙◌}
use lib.ListN.{length}
use Rattle.ruler.specs.Made.{scale}
use Rattle.layout.specs.Words.{half_length}
use Rattle.layout.proofs.RulerCells.{deep-ruler}
use Rattle.store.proofs.Halves.{two_halves}
use Rattle.verify.proofs.Law.{halves-index}
use native.Mathlib.Omega.{arith}
use Rattle.verify.proofs.is_index.Goals as goal

pub half_length-requires : goal.half_length-requires
half_length-requires c = rw c.bottom.ensures (deep-ruler c.args.ruler)

pub split_at-requires : goal.split_at-requires
split_at-requires c =
    let half = c.half_length.ensures ∙ ap half_length c.bottom.ensures in
    omega (arith, two_halves _ c.requires half)

pub locally-requires : goal.locally-requires
locally-requires c =
    let half = c.half_length.ensures ∙ ap half_length c.bottom.ensures in
    let first = c.split_at.ensures.front_len ∙ half in
    let second : length c.split_at.result.1.now ≡ half_length (scale c.args.ruler).m = omega (arith, two_halves _ c.requires half, c.split_at.ensures.back_len, half) in
    ((first, second))

pub returns : goal.returns
returns c =
    let a = c.args in
    let half = c.half_length.ensures ∙ ap half_length c.bottom.ensures in
    let w = c.split_at.ensures in
    c.locally.ensures
    ∙ sym (rw (← w.front, ← w.back) at (halves-index a.ruler a.words.directory.now c.requires half a.words.originals.now a.words.replicas.now))
