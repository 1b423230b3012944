-- The part of the arena at the place of the run.
use mathlib.Core.Path.{◌≡◌, ap, ◌∙◌}
use Prim.Native.Nat.{◌+◌, ◌-◌}
use Rattle.ruler.specs.Ruler.{scale_of}
use Rattle.layout.specs.Answers.{half_of}
use Rattle.layout.specs.Calls.{index}
use Rattle.view.specs.declared.Place.{Place}
use Rattle.view.proofs.ViewEntries.{shown, part_inside_lem, part_is, run_ends}
use native.Mathlib.Omega.{arith}
use Rattle.view.proofs.run.Goals as goal

pub overflow_add-result : goal.overflow_add-result
overflow_add-result c =
    let a = c.args in
    let x = index a.directory.now a.originals.now a.replicas.now in
    let p = shown _ _ _ _ _ c.unwrap_or-place.ensures c.run_place.ensures in
    omega (
      arith,
      ap (λ (k : Place). k.from) p,
      ap (λ (k : Place). k.length) p,
      run_ends a.numbers x a.level a.partition a.subdivision,
    )

pub offset_bounds-arena-place : goal.offset_bounds-arena-place
offset_bounds-arena-place c =
    let a = c.args in
    let x = index a.directory.now a.originals.now a.replicas.now in
    let p = shown _ _ _ _ _ c.unwrap_or-place.ensures c.run_place.ensures in
    omega (
      arith,
      ap (λ (k : Place). k.from) p,
      ap (λ (k : Place). k.length) p,
      run_ends a.numbers x a.level a.partition a.subdivision,
    )

pub slice_bounds-result-end : goal.slice_bounds-result-end
slice_bounds-result-end c =
    let a = c.args in
    let x = index a.directory.now a.originals.now a.replicas.now in
    let p = shown _ _ _ _ _ c.unwrap_or-place.ensures c.run_place.ensures in
    let half = c.half_of.ensures ∙ ap half_of c.numbered.ensures in
    part_inside_lem (scale_of a.numbers) x a.level a.partition a.subdivision half c.arena_of-arena.ensures p

pub returns : goal.returns
returns c =
    let a = c.args in
    let x = index a.directory.now a.originals.now a.replicas.now in
    let p = shown _ _ _ _ _ c.unwrap_or-place.ensures c.run_place.ensures in
    let half = c.half_of.ensures ∙ ap half_of c.numbered.ensures in
    let place = c.unwrap_or-place.result in
    let words : place.from + place.length - place.from ≡ place.length = omega arith in
    rw words (part_is (scale_of a.numbers) x a.level a.partition a.subdivision half c.arena_of-arena.ensures p)
