-- The bytes passed are digits of `value`, and what is left decides the whole.
-- Assumes nothing.
use Rattle.text.proofs.FieldRead.{ReadTo}
use Rattle.text.proofs.number_of.Given as goal

abbrev pub invariant-loop-byte : goal.invariant-loop-byte
invariant-loop-byte l = ReadTo l.field l.byte-index l.value
