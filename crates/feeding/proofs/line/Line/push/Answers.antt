-- A byte that has room is kept, and one that has none is not.
use Rattle.feeding.proofs.Keeping.{kept_more, kept_push, kept_full}
use native.Mathlib.Omega.{arith}
use Rattle.feeding.proofs.line.Line.push.Goals as goal

pub invariant_of-self : goal.invariant_of-self
invariant_of-self c = record { kept = kept_more _ _ c.args.byte c.args.self.now.kept (omega arith) }

pub returns-then-self-lt-LINE : goal.returns-then-self-lt-LINE
returns-then-self-lt-LINE c = kept_push _ _ c.args.byte c.args.self.now.kept (omega arith)

pub returns-else-self-lt-LINE : goal.returns-else-self-lt-LINE
returns-else-self-lt-LINE c = kept_full _ _ c.args.byte c.args.self.now.kept (omega arith)
