-- The bytes of the code are those of the definition.
use Rattle.dialogue.specs.Reply.{as_line, bad_line_bytes}
use native.Mathlib.Omega.{arith}
use Rattle.dialogue.proofs.reply.put_bad_line.Goals as goal

pub returns : goal.returns
unfolding as_line bad_line_bytes
returns c = let p = c.put.ensures in (p.0, p.1, omega (arith, p.0))
