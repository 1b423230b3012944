-- A refused outcome leaves the words; an accepted one is written.
use mathlib.Core.Path.{sym, ◌∙◌}
use Rattle.std.proofs.lemmas.Result.{err_from_is_err_and}
use Rattle.ruler.specs.Made.{scale}
use Rattle.layout.specs.Calls.{index}
use Rattle.edit.proofs.HalfLent.{adding}
use Rattle.edit.proofs.Chained.{add_refused, add-accepted}
use Rattle.edit.proofs.add_checked.Goals as goal

pub returns-in_err-outcome : goal.returns-in_err-outcome
returns-in_err-outcome c =
    let s = scale c.args.ruler in
    let x = index c.args.directory.now c.args.originals.now c.args.replicas.now in
    let why = err_from_is_err_and c.from_residual.result c.from_residual.ensures.1 in
    rw (why.1, why.2) (add_refused s x c.args.t _ (sym c.in_err-outcome.was ∙ c.add_outcome-outcome.ensures))

pub write-requires : goal.write-requires
write-requires c = (_, adding c.args.ruler _ c.args.t (sym c.add_outcome-outcome.ensures ∙ c.in_ok-outcome.was))

pub returns : goal.returns
returns c =
    let x = index c.args.directory.now c.args.originals.now c.args.replicas.now in
    let taken = sym c.add_outcome-outcome.ensures ∙ c.in_ok-outcome.was in
    add-accepted (scale c.args.ruler) x _ c.args.t taken (c.write.ensures _ (adding c.args.ruler x c.args.t taken))
