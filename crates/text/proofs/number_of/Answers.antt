-- The bytes passed are digits of `value`, and what is left decides the whole.
-- Assumes nothing.
use mathlib.Core.Path.{sym, ◌∙◌}
use Rattle.text.specs.Number.{is_digit}
use native.Mathlib.Omega.{arith}
use Rattle.text.proofs.FieldRead.{no_digits, too_many, read_none, read_more, read_other, read_word}
use Rattle.text.proofs.number_of.Goals as goal
use Rattle.text.proofs.number_of.Goals.{then-is_empty-via-then-is_empty, then-is_empty-via-else-is_empty+then-field-gt-MOST_DIGITS}

pub returns-then-is_empty : goal.returns-then-is_empty
returns-then-is_empty c =
    elim c.then-is_empty.branch [
      | then-is_empty-via-then-is_empty w ↦ sym (no_digits _ (grind arith))
      | then-is_empty-via-else-is_empty+then-field-gt-MOST_DIGITS w ↦ sym (too_many _ (omega arith))
    ]

pub loop-byte-init : goal.loop-byte-init
loop-byte-init c = read_none _

pub returns-then-not-is_ascii_digit : goal.returns-then-not-is_ascii_digit
unfolding is_digit
returns-then-not-is_ascii_digit c =
    sym (read_other _ _ _ c.loop-byte.invariant (omega arith) (omega arith) (omega arith)
    (sym c.is_ascii_digit.ensures.value ∙ c.if-not-is_ascii_digit.true))

pub loop-byte-preserved : goal.loop-byte-preserved
loop-byte-preserved c =
    let digit = c.if-not-is_ascii_digit.ensures.cases in
    rw c.from.ensures (read_more _ _ _ c.loop-byte.invariant (omega arith) digit.0 digit.1)

pub returns : goal.returns
returns c =
    c.ok.ensures.value
    ∙ read_word _ _ _ c.loop-byte.invariant (grind arith) (omega arith) c.try_from.result (omega arith) c.try_from.ensures
