-- The numbers read, before those of what is left, are the numbers of all.
-- Assumes nothing.
use mathlib.Core.Path.{sym, ◌∙◌}
use native.Mathlib.Omega.{arith}
use Rattle.std.specs.Cmp.Lexicographic.{same_text, other_text}
use Rattle.std.proofs.lemmas.List.{length-replicate}
use Rattle.text.proofs.Parting.{place_within}
use Rattle.text.proofs.Meaning.{numbers_start, numbers_end, numbers_beyond, numbers_short, numbers_bad, numbers_turn}
use Rattle.text.proofs.numbers.Goals as goal

pub loop-number-init : goal.loop-number-init
loop-number-init g c = numbers_start _ _ _ (length-replicate _ _)

pub returns-in_err-fields : goal.returns-in_err-fields
returns-in_err-fields g c =
    c.from_residual.ensures ∙ numbers_short _ _ _ _ _ c.loop-number.invariant (omega arith) (other_text _ _ (sym c.in_err-fields.ensures.cases))

pub split_at-requires : goal.split_at-requires
split_at-requires g c = rw c.field_end.ensures (place_within _ _ 0 (omega arith))

pub returns-in_err-number : goal.returns-in_err-number
returns-in_err-number g c =
    c.from_residual-in_err-number.ensures
    ∙ numbers_bad _ _ _ _ _ c.loop-number.invariant (omega arith) _ c.field_end.result
    (same_text _ _ (sym c.in_ok-fields.ensures.cases.0))
    c.in_ok-fields.ensures.cases.1 c.field_end.ensures (rw (← c.split_at.ensures.front) c.in_err-number.ensures)

pub loop-number-preserved : goal.loop-number-preserved
loop-number-preserved g c =
    rw c.split_at.ensures.back (numbers_turn _ _ _ _ _ c.loop-number.invariant (omega arith) _ c.field_end.result
    (same_text _ _ (sym c.in_ok-fields.ensures.cases.0))
    c.in_ok-fields.ensures.cases.1 c.field_end.ensures (rw (← c.split_at.ensures.front) c.in_ok-number.ensures))

pub returns-then-is_empty : goal.returns-then-is_empty
returns-then-is_empty g c = numbers_end _ _ _ _ _ c.loop-number.invariant (omega arith) (grind arith)

pub returns-else-is_empty : goal.returns-else-is_empty
returns-else-is_empty g c = numbers_beyond _ _ _ _ _ c.loop-number.invariant (omega arith) (grind arith)
