-- Each half of the directory is what the index has there; both, edited, are the whole index again.
use mathlib.Core.Path.{ap, ◌∙◌}
use Rattle.ruler.specs.Made.{scale}
use Rattle.layout.specs.Words.{half_length}
use Rattle.layout.specs.Calls.{index}
use Rattle.layout.proofs.RulerCells.{deep-ruler}
use Rattle.edit.proofs.IndexRead.{both, both_of}
use Rattle.edit.proofs.HalfLent.{first_steps, second_steps}
use native.Mathlib.Omega.{arith}
use Rattle.edit.proofs.write.Goals as goal

pub half_length-requires : goal.half_length-requires
half_length-requires g c = rw c.bottom.ensures (deep-ruler c.args.ruler)

pub split_at_mut-o-requires : goal.split_at_mut-o-requires
split_at_mut-o-requires g c =
    omega (arith, both _ _ c.requires.1.is-index (c.half_length.ensures ∙ ap half_length c.bottom.ensures))

pub edit_half-requires : goal.edit_half-requires
edit_half-requires g c =
    let half = c.half_length.ensures ∙ ap half_length c.bottom.ensures in
    (_, _, first_steps c.requires.1 half c.split_at_mut-o.ensures.front)

pub edit_half-requires-2 : goal.edit_half-requires-2
edit_half-requires-2 g c =
    let half = c.half_length.ensures ∙ ap half_length c.bottom.ensures in
    (_, _, second_steps c.requires.1 half c.split_at_mut-o.ensures.back)

pub returns : goal.returns
returns g c = λ ts w.
    let half = c.half_length.ensures ∙ ap half_length c.bottom.ensures in
    let x = index c.args.directory.now c.args.originals.now c.args.replicas.now in
    both_of (scale c.args.ruler) x ts _ _ _ _ (c.edit_half.ensures x ts (first_steps w half c.split_at_mut-o.ensures.front))
    (c.edit_half-2.ensures x ts (second_steps w half c.split_at_mut-o.ensures.back))
