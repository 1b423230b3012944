-- What the rest of the chunk does from here is what the chunk does from its start.
use mathlib.Core.Path.{refl, ◌∙◌}
use Prim.Native.Nat.{◌+◌, ◌≤◌}
use lib.ListN.{length}
use Rattle.dialogue.specs.Session.{most_reply}
use Rattle.feeding.proofs.Holding.{feeding_start, byte_short, feeding_turn, feeding_end}
use native.Mathlib.Omega.{arith}
use Rattle.feeding.proofs.feed.Goals as goal

pub loop-byte-init : goal.loop-byte-init
loop-byte-init c = (feeding_start _ _ _ _ _ c.requires.0, refl, refl, refl, refl)

pub overflow_add-end : goal.overflow_add-end
overflow_add-end c =
    let w = c.loop-byte.invariant.0 in
    omega (arith, w.short, w.upto, c.requires.1.room)

pub slice_bounds-take_byte-end : goal.slice_bounds-take_byte-end
slice_bounds-take_byte-end c =
    let w = c.loop-byte.invariant.0 in
    omega (arith, w.short, w.long, w.upto, c.requires.1.room)

pub overflow_add-to : goal.overflow_add-to
overflow_add-to c =
    let l = c.loop-byte in
    let w = l.invariant.0 in
    let short = byte_short l.out l.to _ refl c.take_byte-fed.ensures in
    omega (arith, c.loop-byte-test.true, w.short, c.requires.1.room)

pub loop-byte-preserved : goal.loop-byte-preserved
loop-byte-preserved c =
    let l = c.loop-byte in
    let v = l.invariant in
    let more = c.loop-byte-test.true in
    let room : l.to + most_reply ≤ length l.out = omega (arith, more, v.0.short, v.0.long, c.requires.1.room) in (
      feeding_turn (l.to + most_reply) v.0 more refl room c.take_byte-fed.ensures,
      c.directory-1.given ∙ v.1,
      c.originals-1.given ∙ v.2,
      c.replicas-1.given ∙ v.3,
      c.answers-1.given ∙ v.4,
    )

pub returns : goal.returns
returns c = feeding_end c.loop-byte.invariant.0 (omega arith) c.requires.1.room
