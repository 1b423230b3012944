-- Two halves.
use Rattle.layout.proofs.Numbers.{halves-length, half_small}
use native.Mathlib.Omega.{arith}
use Rattle.store.proofs.counting.directory_length.Goals as goal

pub overflow_mul-result : goal.overflow_mul-result
overflow_mul-result c = omega (arith, c.half_length.ensures, half_small c.args.m c.requires)

pub returns : goal.returns
returns c = omega (arith, c.half_length.ensures, halves-length c.args.m)
