-- `reader::take_size` meets its contract.
-- Assumes nothing.
use mathlib.Core.Path.{◌∙◌, ap, sym}
use borrow.Author.Tests.{ne_eqb}
use Rattle.refusals.proofs.Answers.{number_not_0}
use Rattle.head_rules.specs.Answers.{reader_answered}
use Rattle.head_rules.specs.Reader.{size_taken}
use Rattle.head_rules.proofs.Answers.{passed_up}
use Rattle.sheet_head.proofs.reader.take_size.Goals as goal

pub returns-in_err-check_size : goal.returns-in_err-check_size
unfolding size_taken
returns-in_err-check_size c =
    ap reader_answered (passed_up _ c.from_residual.ensures.1) ∙ sym (rw (← c.in_err-check_size.ensures, ne_eqb _ 0 (number_not_0 c.in_err-check_size.field-0.0)))

pub returns : goal.returns
unfolding size_taken
returns c = c.at_stage.ensures ∙ sym (rw (← c.in_ok-check_size.ensures))
