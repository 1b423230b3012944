-- 2P + 1, with P = 2^(m+1) − 1.
use native.Mathlib.Nat.{two-pow-succ}
use native.Mathlib.Numerals.{add-one}
use lib.Pow.{pow_pos}
use Rattle.layout.specs.Words.{partitions, half_length}
use native.Mathlib.Omega.{arith}
use Rattle.layout.proofs.directory.half_length.Goals as goal

pub returns : goal.returns
unfolding half_length partitions
returns c = rw (add-one c.args.m) (omega (arith, c.power.ensures, two-pow-succ c.args.m, pow_pos c.args.m))
