-- Each case of `ends_of`.
use mathlib.Core.Path.{◌≡◌}
use mathlib.Core.Bool.{true, false}
use Rattle.layout.specs.Stored.{last_cell}
use Rattle.verify.specs.Frames.{ends_of}
use Rattle.verify.proofs.Framed.{cells_in}
use native.Mathlib.Omega.{arith}
use Rattle.verify.proofs.partition.ends_of.Goals as goal

pub next-after-requires : goal.next-after-requires
next-after-requires c =
    let p = c.args.partition in
    rw c.last_at-last.ensures (c.requires.0, omega (arith, cells_in c.args.m p.0 p.1 c.requires.1 c.requires.2))

pub returns-then-not-aft : goal.returns-then-not-aft
unfolding ends_of last_cell
returns-then-not-aft c =
    let ends : c.args.aft ≡ false = c.if-not-aft.true in
    rw (ends, c.next-after.ensures, c.last_at-last.ensures)

pub returns-then-level-parity : goal.returns-then-level-parity
unfolding ends_of last_cell
returns-then-level-parity c =
    let aft : c.args.aft ≡ true = c.if-not-aft.false in
    let last = rw (c.parity.ensures, c.level.ensures) at c.if-level-parity.true in
    rw (aft, last, c.at.ensures, c.power.ensures, c.next-after.ensures, c.last_at-last.ensures)

pub returns : goal.returns
unfolding ends_of last_cell
returns c =
    let aft : c.args.aft ≡ true = c.if-not-aft.false in
    let inner = rw (c.parity.ensures, c.level.ensures) at c.if-level-parity.false in
    rw (aft, inner, c.last_at.ensures, c.above.ensures, c.next-after.ensures, c.last_at-last.ensures)
