-- Each case of `starts_of`. A partition with an odd number has a parent.
use mathlib.Core.Path.{◌≡◌}
use mathlib.Core.Logic.{◌≢◌}
use mathlib.Core.Bool.{true, false}
use Prim.Native.Nat.{◌-◌, ◌/◌, ◌%◌, ◌≤◌}
use lib.Dec.{eqb}
use borrow.Author.Tests.{eq-eqb, ne_eqb}
use Rattle.layout.specs.Stored.{first_cell}
use Rattle.verify.specs.Frames.{starts_of}
use Rattle.verify.proofs.Framed.{parent_in, cells_in}
use native.Mathlib.Omega.{arith}
use Rattle.verify.proofs.partition.starts_of.Goals as goal

pub next-requires : goal.next-requires
next-requires c =
    let p = c.args.partition in
    rw c.first_at-first.ensures (c.requires.0, omega (arith, cells_in c.args.m p.0 p.1 c.requires.1 c.requires.2))

pub returns-then-parity-eq0 : goal.returns-then-parity-eq0
unfolding starts_of first_cell
returns-then-parity-eq0 c =
    let i = c.args.partition.1 in
    let even : eqb (i % 2) 0 ≡ true = eq-eqb (i % 2) 0 (omega (arith, c.parity.ensures)) in
    rw (c.in-Replicas.is, even, c.at.ensures, c.first_at-first.ensures)

pub first_at-requires : goal.first_at-requires
first_at-requires c =
    let p = c.args.partition in
    let odd : p.1 % 2 ≢ 0 = omega (arith, c.parity.ensures, c.if-parity-eq0.false) in
    rw c.above.ensures (omega (arith, c.requires.1), c.requires.0, parent_in p.0 p.1 c.requires.2 odd)

pub next-requires-in-Replicas : goal.next-requires-in-Replicas
next-requires-in-Replicas c =
    let p = c.args.partition in
    let odd : p.1 % 2 ≢ 0 = omega (arith, c.parity.ensures, c.if-parity-eq0.false) in
    let up : p.0 - 1 ≤ c.args.m = omega (arith, c.requires.1) in
    rw (c.first_at.ensures, c.above.ensures) (c.requires.0, omega (arith, cells_in c.args.m (p.0 - 1) (p.1 / 2) up (parent_in p.0 p.1 c.requires.2 odd)))

pub returns-in-Originals : goal.returns-in-Originals
unfolding starts_of first_cell
returns-in-Originals c = rw (c.in-Originals.is, c.next.ensures, c.first_at-first.ensures)

pub returns-else-parity-eq0 : goal.returns-else-parity-eq0
unfolding starts_of first_cell
returns-else-parity-eq0 c =
    let i = c.args.partition.1 in
    let odd : eqb (i % 2) 0 ≡ false = ne_eqb (i % 2) 0 (λ z. omega (arith, c.parity.ensures, c.if-parity-eq0.false)) in
    rw (
      c.in-Replicas.is,
      odd,
      c.next-in-Replicas.ensures,
      c.first_at.ensures,
      c.above.ensures,
      c.first_at-first.ensures,
    )
