-- The test of 7, made on the count where the trips alone do not settle it.
use mathlib.Core.Path.{sym}
use Rattle.layout.proofs.Chains.{has_room, no_room_lem}
use mathlib.Core.Path.{sym}
use native.Mathlib.Omega.{arith}
use Rattle.ask.proofs.room_for.Goals as goal

pub returns-then-trips-room : goal.returns-then-trips-room
returns-then-trips-room c = sym (has_room _ _ (omega arith))

pub returns-then-room-count : goal.returns-then-room-count
returns-then-room-count c = rw (c.with_detail.ensures, ← c.count_levels-count.ensures) (sym (no_room_lem _ _ c.if-room-count.true))

pub returns : goal.returns
returns c = sym (has_room _ _ (omega (arith, c.count_levels-count.ensures)))
