-- `write_head` meets its contract.
-- Assumes nothing.
use mathlib.Core.Path.{◌∙◌, ap, refl, sym}
use Rattle.refusals.proofs.Answers.{number_not_0}
use Rattle.head_rules.specs.Answers.{bytes_answered}
use Rattle.head_rules.proofs.Answers.{passed_up}
use Rattle.head_rules.proofs.Heading.{sized}
use Rattle.head_rules.proofs.Writing.{nothing, written}
use Rattle.sheet_head.proofs.write_head.Goals as goal

pub returns-in_err-check_size : goal.returns-in_err-check_size
returns-in_err-check_size c =
    ap bytes_answered (passed_up _ c.from_residual.ensures.1) ∙ nothing _ _ c.in_err-check_size.ensures (number_not_0 _)

pub bytes_of-requires : goal.bytes_of-requires
bytes_of-requires c = sized _ _ _ (sym c.in_ok-check_size.ensures)

pub returns : goal.returns
returns c = c.bytes_of.ensures ∙ written _ _ c.in_ok-check_size.ensures refl
