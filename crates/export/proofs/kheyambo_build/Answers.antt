-- The outcome of the entry, in numbers.
use mathlib.Core.Path.{ap, ◌∙◌}
use Rattle.ruler.specs.declared.Numbers.{Numbers}
use Rattle.layout.specs.Calls.{index}
use Rattle.export.specs.Said.{build_said}
use Rattle.export.proofs.Thin.{left_so}
use Rattle.export.proofs.kheyambo_build.Goals as goal

pub returns : goal.returns
unfolding build_said
returns c =
    let a = c.args in
    let x = index a.directory.now a.originals.now a.replicas.now in
    left_so c.from-2.ensures c.build.ensures
    ∙ ap (λ (n : Numbers). build_said n a.table.now x) c.from.ensures
