-- A field ends in the line.
use native.Mathlib.Omega.{arith}
use Rattle.text.proofs.Parting.{place_within}
use Rattle.probe.proofs.scan.Fields.next.Goals as goal

pub split_at-requires : goal.split_at-requires
split_at-requires c = rw c.field_end-end.ensures (place_within _ _ 0 (omega arith))
