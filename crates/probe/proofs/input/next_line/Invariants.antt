-- What is left of a chunk lies within it.
use Prim.Native.Nat.{◌≤◌}
use Rattle.probe.proofs.input.next_line.Given as goal

abbrev pub invariant-loop : goal.invariant-loop
invariant-loop g l = l.standing.got ≤ 65536
