-- What is left is apart from the room exactly if all is.
use mathlib.Core.Path.{sym, ap, ◌∙◌}
use native.Mathlib.Omega.{arith}
use Rattle.store.specs.Ids.{apart}
use Rattle.store.proofs.Classes.{class_hit, class_miss, class_none, apart_more, apart_stop, apart_none}
use Rattle.store.proofs.ids.Class.none_again.Goals.{else-class_of-self-via-then-class_of-self+else-holds, else-class_of-self-via-else-class_of-self}
use Rattle.store.proofs.ids.Class.none_again.Goals as goal

pub returns-then-holds : goal.returns-then-holds
returns-then-holds c =
    let args = c.args in
    let next = class_hit args.self.classes args.self.class args.part.now c.loop-k.k (omega arith) c.class_of.ensures c.if-class_of-self.true in
    sym (apart_stop args.room.now _ _ _ next (sym c.holds.ensures ∙ c.if-holds.true)) ∙ c.loop-k.invariant

pub loop-k-preserved : goal.loop-k-preserved
loop-k-preserved c =
    let args = c.args in
    elim c.else-class_of-self.branch [
      | else-class_of-self-via-then-class_of-self+else-holds w ↦
          let next = class_hit args.self.classes args.self.class args.part.now c.loop-k.k (omega arith) c.class_of.ensures w.if-class_of-self.true in
          apart_more args.room.now _ _ _ next (sym w.holds.ensures ∙ w.if-holds.false) ∙ c.loop-k.invariant
      | else-class_of-self-via-else-class_of-self w ↦
          let same = class_miss args.self.classes args.self.class args.part.now c.loop-k.k (omega arith) c.class_of.ensures w.if-class_of-self.false in
          ap (apart args.room.now) (sym same) ∙ c.loop-k.invariant
    ]

pub returns : goal.returns
returns c =
    let args = c.args in
    let none = class_none args.self.classes args.self.class args.part.now c.loop-k.k (omega arith) in
    sym (apart_none args.room.now _ none) ∙ c.loop-k.invariant
