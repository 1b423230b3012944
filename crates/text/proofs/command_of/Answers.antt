-- Each letter asks for its own count of numbers.
-- Assumes nothing.
use mathlib.Core.Path.{◌∙◌}
use native.Mathlib.Omega.{arith}
use Rattle.text.proofs.Meaning.{no_command, makes_ruler, makes_adding, makes_removing, makes_asking, other_letter}
use Rattle.text.proofs.command_of.Goals as goal

pub returns-in_err-letter : goal.returns-in_err-letter
returns-in_err-letter c = rw (c.from_residual.ensures, no_command c.args.line.now c.in_err-letter.ensures.cases)

pub returns-in_err-w-in-68 : goal.returns-in_err-w-in-68
returns-in_err-w-in-68 c =
    c.from_residual-in_err-w-in-68.ensures ∙ makes_ruler _ _ _ _ c.in_ok-letter.ensures.cases.0 c.in-68.is c.in_err-w-in-68.ensures

pub returns-in_ok-w-in-68 : goal.returns-in_ok-w-in-68
returns-in_ok-w-in-68 c = makes_ruler _ _ _ _ c.in_ok-letter.ensures.cases.0 c.in-68.is c.in_ok-w-in-68.ensures

pub returns-in_err-id-in-84 : goal.returns-in_err-id-in-84
returns-in_err-id-in-84 c =
    c.from_residual-in_err-id-in-84.ensures ∙ makes_adding _ _ _ _ c.in_ok-letter.ensures.cases.0 c.in-84.is c.in_err-id-in-84.ensures

pub returns-in_ok-id-in-84 : goal.returns-in_ok-id-in-84
returns-in_ok-id-in-84 c = makes_adding _ _ _ _ c.in_ok-letter.ensures.cases.0 c.in-84.is c.in_ok-id-in-84.ensures

pub returns-in_err-id-in-88 : goal.returns-in_err-id-in-88
returns-in_err-id-in-88 c =
    c.from_residual-in_err-id-in-88.ensures ∙ makes_removing _ _ _ _ c.in_ok-letter.ensures.cases.0 c.in-88.is c.in_err-id-in-88.ensures

pub returns-in_ok-id-in-88 : goal.returns-in_ok-id-in-88
returns-in_ok-id-in-88 c = makes_removing _ _ _ _ c.in_ok-letter.ensures.cases.0 c.in-88.is c.in_ok-id-in-88.ensures

pub returns-in_err-code-in-81 : goal.returns-in_err-code-in-81
returns-in_err-code-in-81 c =
    c.from_residual-in_err-code-in-81.ensures ∙ makes_asking _ _ _ _ c.in_ok-letter.ensures.cases.0 c.in-81.is c.in_err-code-in-81.ensures

pub returns-in_ok-code-in-81 : goal.returns-in_ok-code-in-81
returns-in_ok-code-in-81 c = makes_asking _ _ _ _ c.in_ok-letter.ensures.cases.0 c.in-81.is c.in_ok-code-in-81.ensures

pub returns-in_default : goal.returns-in_default
returns-in_default c =
    other_letter c.in_ok-letter.ensures.cases.0 (λ e. omega arith) (λ e. omega arith) (λ e. omega arith) (λ e. omega arith)
