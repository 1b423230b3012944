-- What the opening refuses is refused; the rest is the edit of words that are an index.
use mathlib.Core.Path.{ap, ◌∙◌}
use Rattle.std.proofs.lemmas.Result.{err_from_is_err_and}
use Rattle.ruler.specs.declared.Numbers.{Numbers}
use Rattle.ruler.specs.Ruler.{scale_of}
use Rattle.layout.specs.Calls.{index, remove_of}
use Rattle.verify.proofs.Opening.{opened}
use Rattle.edit.proofs.Chained.{remove_shut}
use Rattle.edit.proofs.remove.Goals as goal

pub returns-in_err-ruler : goal.returns-in_err-ruler
returns-in_err-ruler c =
    let a = c.args in
    let x = index a.directory.now a.originals.now a.replicas.now in
    let why = err_from_is_err_and c.from_residual.result c.from_residual.ensures.1 in
    rw (why.1, why.2) (remove_shut a.numbers x a.id _ c.open.ensures c.in_err-ruler.was)

pub remove_checked-requires : goal.remove_checked-requires
remove_checked-requires c =
    let a = c.args in
    let x = index a.directory.now a.originals.now a.replicas.now in
    (opened a.numbers x c.in_ok-ruler.ruler c.open.ensures c.in_ok-ruler.was).passes

pub returns : goal.returns
returns c =
    let a = c.args in
    let x = index a.directory.now a.originals.now a.replicas.now in
    let w = opened a.numbers x c.in_ok-ruler.ruler c.open.ensures c.in_ok-ruler.was in
    c.remove_checked.ensures ∙ ap (λ (n : Numbers). remove_of (scale_of n) x a.id) w.numbers
