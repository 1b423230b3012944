-- A refusal leaves the words; else each half is laid out in its part of the directory.
use Rattle.std.proofs.lemmas.Result.{err_from_is_err_and}
use mathlib.Core.Path.{◌≡◌, ap, ap₂, ◌∙◌}
use mathlib.Core.List.{◌++◌}
use lib.ListN.{length}
use Rattle.ruler.specs.Made.{scale}
use Rattle.layout.specs.Words.{half_length}
use Rattle.layout.proofs.RulerCells.{deep-ruler}
use Rattle.store.proofs.Halves.{two_halves}
use Rattle.build.proofs.Says.{left_old, left_new, to_build}
use native.Mathlib.Omega.{arith}
use Rattle.build.proofs.build_on.Goals as goal

pub returns-in_err-judged : goal.returns-in_err-judged
returns-in_err-judged c =
    let why = err_from_is_err_and c.from_residual.result c.from_residual.ensures.1 in
    rw (why.1, why.2) (left_old _ _ _ _ _ c.judged.ensures _ c.in_err-judged.was)

pub half_length-requires : goal.half_length-requires
half_length-requires c = rw c.bottom.ensures (deep-ruler c.args.ruler)

pub split_at_mut-o-requires : goal.split_at_mut-o-requires
split_at_mut-o-requires c =
    let w = to_build c.args.ruler _ _ _ _ c.judged.ensures c.in_ok-judged.was in
    omega (arith, two_halves _ w.long (c.half_length.ensures ∙ ap half_length c.bottom.ensures))

pub fill_replicas-requires-clause-fillable : goal.fill_replicas-requires-clause-fillable
fill_replicas-requires-clause-fillable c =
    let w = to_build c.args.ruler _ _ _ _ c.judged.ensures c.in_ok-judged.was in
    let half = c.half_length.ensures ∙ ap half_length c.bottom.ensures in
    let long : length c.split_at_mut-o.result.1.now ≡ half_length (scale c.args.ruler).m =
    omega (arith, two_halves _ w.long half, half, c.split_at_mut-o.ensures.back_len) in
    rw long w.replicas

pub fill_replicas-requires-clause-room : goal.fill_replicas-requires-clause-room
fill_replicas-requires-clause-room c =
    let w = to_build c.args.ruler _ _ _ _ c.judged.ensures c.in_ok-judged.was in
    (w.room, w.whole)

pub fill-requires : goal.fill-requires
fill-requires c =
    let w = to_build c.args.ruler _ _ _ _ c.judged.ensures c.in_ok-judged.was in
    let half = c.half_length.ensures ∙ ap half_length c.bottom.ensures in
    rw (c.split_at_mut-o.ensures.front_len ∙ half, c.fill_replicas.auto.spare) w.originals

pub returns : goal.returns
returns c =
    let o = c.fill in
    let r = c.fill_replicas in
    left_new _ _ _ _ _ c.judged.ensures c.in_ok-judged.was _ o.new.arena r.new.arena
    (ap₂ ◌++◌ o.ensures.directory-is r.ensures.directory-is) (rw r.auto.spare at o.ensures.words_are) r.ensures.words_are
