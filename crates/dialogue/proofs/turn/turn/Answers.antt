-- Each line has its own turn.
use borrow.Author.Tests.{le-ltb, lt-ltb}
use Rattle.dialogue.specs.Session.{deepest_here, turn_of}
use Rattle.layout.specs.Calls.{index}
use Rattle.dialogue.proofs.turn.turn.Goals as goal
use Rattle.dialogue.proofs.turn.turn.Goals.{in_default-2-via-in-Ruler-None+else-m-le-DEEPEST_HERE, in_default-2-via-in-Ruler+in_default, in_default-2-via-in-Add+in_default, in_default-2-via-in-Remove+in_default, in_default-2-via-in-Ask+in_default}

pub returns-in_default : goal.returns-in_default
unfolding turn_of
returns-in_default c =
    let a = c.args in
    rw (← c.command_of.ensures, c.in_default.is) (c.bad_turn.ensures (index a.directory.now a.originals.now a.replicas.now) a.answers.now)

pub returns-in-Ruler-None : goal.returns-in-Ruler-None
unfolding turn_of
returns-in-Ruler-None c =
    let arm = c.in-Ruler-None in
    rw (← c.in-Some.ensures, arm.is-0, arm.is-1, le-ltb deepest_here arm.m c.if-m-le-DEEPEST_HERE.true) (c.open_turn.ensures c.args.answers.now)

pub returns-in-Add-Some : goal.returns-in-Add-Some
unfolding turn_of
returns-in-Add-Some c =
    let arm = c.in-Add-Some in
    rw (← c.in-Some.ensures, arm.is-0, arm.is-1, ← c.of-t.ensures) (c.add_turn.ensures c.args.answers.now)

pub returns-in-Remove-Some : goal.returns-in-Remove-Some
unfolding turn_of
returns-in-Remove-Some c =
    let arm = c.in-Remove-Some in
    rw (← c.in-Some.ensures, arm.is-0, arm.is-1) (c.remove_turn.ensures c.args.answers.now)

pub returns-in-Ask-Some : goal.returns-in-Ask-Some
unfolding turn_of
returns-in-Ask-Some c =
    let arm = c.in-Ask-Some in
    rw (← c.in-Some.ensures, arm.is-0, arm.is-1, ← c.of-asking.ensures) c.ask_turn.ensures

pub returns-in_default-2 : goal.returns-in_default-2
unfolding turn_of
returns-in_default-2 c =
    let a = c.args in
    let bad = c.bad_turn-in_default-2.ensures (index a.directory.now a.originals.now a.replicas.now) a.answers.now in
    let line = c.in-Some.ensures in
    elim c.in_default-2.branch [
      | in_default-2-via-in-Ruler-None+else-m-le-DEEPEST_HERE w ↦
          rw (← line, w.in-Ruler-None.is-0, w.in-Ruler-None.is-1, lt-ltb deepest_here w.in-Ruler-None.m w.if-m-le-DEEPEST_HERE.false)
          (rw w.in-Ruler-None.is-1 at bad)
      | in_default-2-via-in-Ruler+in_default w ↦ rw (← line, w.in_default-2.is-0, w.in_default-2.is-1) (rw w.in_default-2.is-1 at bad)
      | in_default-2-via-in-Add+in_default w ↦ rw (← line, w.in_default-2.is-0, w.in_default-2.is-1) (rw w.in_default-2.is-1 at bad)
      | in_default-2-via-in-Remove+in_default w ↦ rw (← line, w.in_default-2.is-0, w.in_default-2.is-1) (rw w.in_default-2.is-1 at bad)
      | in_default-2-via-in-Ask+in_default w ↦ rw (← line, w.in_default-2.is-0, w.in_default-2.is-1) (rw w.in_default-2.is-1 at bad)
    ]
