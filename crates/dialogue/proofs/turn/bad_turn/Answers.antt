-- Only the reply changes.
use mathlib.Core.Path.{refl}
use Rattle.dialogue.specs.Session.{bad_line}
use Rattle.dialogue.proofs.turn.bad_turn.Goals as goal

pub returns : goal.returns
unfolding bad_line
returns c = λ x l. record {
  next = refl;
  goes = refl;
  count = c.put_bad_line-written.ensures.0;
  fits = c.put_bad_line-written.ensures.2;
  bytes = c.put_bad_line-written.ensures.1;
}
