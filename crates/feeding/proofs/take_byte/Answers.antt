-- What the byte is, and whether the session goes on, decide.
use borrow.Author.Tests.{not-true, not-false}
use Rattle.layout.specs.Calls.{index}
use Rattle.feeding.proofs.Holding.{byte_over, byte_ends, byte_stays}
use Rattle.feeding.proofs.take_byte.Goals as goal

pub returns-then-not-standing : goal.returns-then-not-standing
returns-then-not-standing c =
    let a = c.args in
    byte_over a.standing (index a.directory.now a.originals.now a.replicas.now) a.answers.now a.byte
    (not-true _ c.if-not-standing.true) (c.silent.ensures _ _ _)

pub returns-then-byte-eq-NEWLINE : goal.returns-then-byte-eq-NEWLINE
returns-then-byte-eq-NEWLINE c =
    let a = c.args in
    byte_ends a.standing (index a.directory.now a.originals.now a.replicas.now) a.answers.now a.byte
    (not-false _ c.if-not-standing.false) c.if-byte-eq-NEWLINE.true c.line_done.ensures

pub returns : goal.returns
returns c =
    let a = c.args in
    byte_stays a.standing (index a.directory.now a.originals.now a.replicas.now) a.answers.now a.byte
    (not-false _ c.if-not-standing.false) c.if-byte-eq-NEWLINE.false (c.keep_byte.ensures.1 _ _) (c.silent-2.ensures _ _ _)
