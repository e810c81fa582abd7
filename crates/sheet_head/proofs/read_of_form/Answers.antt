-- `read_of_form` meets its contract.
-- Assumes nothing.
use mathlib.Core.Path.{◌∙◌, ap, refl}
use Rattle.refusals.proofs.Answers.{number_not_0}
use Rattle.head_rules.specs.Answers.{head_answered}
use Rattle.head_rules.proofs.Answers.{passed_up}
use Rattle.head_rules.proofs.Theorems.{only_eight, only_rest, only_seven}
use Rattle.sheet_head.proofs.read_of_form.Goals as goal

pub returns-in_err-number : goal.returns-in_err-number
returns-in_err-number c = ap head_answered (passed_up _ c.from_residual.ensures.1) ∙ only_seven _ _ c.in_err-number.ensures (number_not_0 _)

pub returns-then-number-number_of_form : goal.returns-then-number-number_of_form
returns-then-number-number_of_form c = only_eight _ _ c.in_ok-number.ensures refl c.number_of_form.ensures c.if-number-number_of_form.true

pub returns : goal.returns
returns c = c.read_head.ensures ∙ only_rest _ _ c.in_ok-number.ensures refl c.number_of_form.ensures c.if-number-number_of_form.false
