-- What the room had, and then the rest of the class, is what it has, and then what is left.
use native.Mathlib.Omega.{arith}
use Rattle.store.proofs.Classes.{class_hit, class_miss, gather_hit, gather_miss}
use Rattle.store.proofs.ids.Class.gather_rows.Goals.{then-class_of-self, else-class_of-self}
use Rattle.store.proofs.ids.Class.gather_rows.Goals as goal

pub loop-k-preserved : goal.loop-k-preserved
loop-k-preserved c =
    let loop = c.loop-k in
    let args = c.args in
    elim c.if-class_of-self.branch [
      | then-class_of-self w ↦
          let rest = class_hit args.self.classes args.self.class args.part.now loop.k (omega arith) c.class_of.ensures w.if-class_of-self.true in
          rw w.found-is (omega arith, gather_hit _ loop.room _ _ loop.found _ (omega arith) loop.invariant.1 rest)
      | else-class_of-self w ↦
          let rest = class_miss args.self.classes args.self.class args.part.now loop.k (omega arith) c.class_of.ensures w.if-class_of-self.false in
          rw w.found-is (omega arith, gather_miss _ loop.room _ _ loop.found _ (omega arith) loop.invariant.1 rest)
    ]
