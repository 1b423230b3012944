-- What is held is the last line, and where nothing is, there is none.
use Rattle.layout.specs.Calls.{index}
use Rattle.std.proofs.lemmas.Bool.Decides.{nat_tests}
use Rattle.feeding.proofs.Holding.{end_line, end_silent}
use native.Mathlib.Omega.{arith}
use Rattle.feeding.proofs.finish.Goals as goal
use Rattle.feeding.proofs.finish.Goals.{else-standing-via-then-standing+else-not-is_empty, else-standing-via-else-standing}

pub returns-then-not-is_empty : goal.returns-then-not-is_empty
returns-then-not-is_empty c =
    let a = c.args in
    end_line a.standing (index a.directory.now a.originals.now a.replicas.now) a.answers.now
    (grind (arith, nat_tests)) c.line_done.ensures

pub returns : goal.returns
returns c =
    let a = c.args in
    end_silent a.standing (index a.directory.now a.originals.now a.replicas.now) a.answers.now
    (elim c.else-standing.branch [
      | else-standing-via-then-standing+else-not-is_empty w ↦ grind (arith, nat_tests)
      | else-standing-via-else-standing w ↦ rw w.if-standing.false
    ]) (c.silent.ensures _ _ _)
