-- The place of the run, in numbers.
use mathlib.Core.Path.{ap, ◌∙◌}
use Rattle.ruler.specs.declared.Numbers.{Numbers}
use Rattle.layout.specs.Calls.{index}
use Rattle.export.specs.Said.{run_said}
use Rattle.export.proofs.Thin.{run_small, run-shown, run-refused}
use native.Mathlib.Omega.{arith}
use Rattle.export.proofs.kheyambo_run.Goals as goal

pub overflow_cast-result : goal.overflow_cast-result
overflow_cast-result c =
    let a = c.args in
    let x = index a.directory.now a.originals.now a.replicas.now in
    omega (arith, (run_small c.from.result a.level a.partition a.subdivision x c.run_place.ensures c.in-Ok.is).0)

pub overflow_cast-result-in-Ok : goal.overflow_cast-result-in-Ok
overflow_cast-result-in-Ok c =
    let a = c.args in
    let x = index a.directory.now a.originals.now a.replicas.now in
    omega (arith, (run_small c.from.result a.level a.partition a.subdivision x c.run_place.ensures c.in-Ok.is).1)

pub returns-in-Ok : goal.returns-in-Ok
returns-in-Ok c =
    let a = c.args in
    let x = index a.directory.now a.originals.now a.replicas.now in
    run-shown c.from.result a.level a.partition a.subdivision x c.run_place.ensures c.in-Ok.is c.arena_of.ensures
    ∙ ap (λ (n : Numbers). run_said n a.level a.partition a.subdivision x) c.from.ensures

pub returns-in-Err : goal.returns-in-Err
returns-in-Err c =
    let a = c.args in
    let x = index a.directory.now a.originals.now a.replicas.now in
    rw c.from-in-Err.ensures (run-refused c.from.result a.level a.partition a.subdivision x c.run_place.ensures c.in-Err.is
    ∙ ap (λ (n : Numbers). run_said n a.level a.partition a.subdivision x) c.from.ensures)
