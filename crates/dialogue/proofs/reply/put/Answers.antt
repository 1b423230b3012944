-- The bytes over their place are stores one after another.
use mathlib.Core.Path.{refl, sym, ◌∙◌}
use mathlib.Core.List.{append_assoc}
use native.Mathlib.Nat.{add-sub_cancel_left}
use lib.ListN.{take}
use lib.Seq.{sets-eq, drop-drop}
use Rattle.dialogue.proofs.reply.put.Goals as goal

pub returns : goal.returns
returns c =
    let a = c.args in
    let stored = sets-eq a.bytes.now a.reply.now a.at c.requires ∙ append_assoc (take a.at a.reply.now) a.bytes.now _ in
    (refl, rw (add-sub_cancel_left, c.copy_from_slice.ensures.after, drop-drop) (sym stored))
