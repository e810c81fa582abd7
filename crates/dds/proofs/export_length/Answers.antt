-- `export_length` meets its contract.
-- Assumes nothing.
use mathlib.Core.Path.{◌∙◌, ap, refl}
use native.Mathlib.Omega.{arith}
use Rattle.refusals.proofs.Answers.{number_not_0}
use Rattle.head_rules.specs.Answers.{known}
use Rattle.head_rules.proofs.Answers.{passed_up}
use Rattle.dds_rules.specs.Lengths.{length_answered}
use Rattle.dds.proofs.Answers.{blocks_fit, export_length_is, export_length_refused, export_sized}
use Rattle.dds.proofs.export_length.Goals as goal

pub returns-in_err-read_whole_of_form : goal.returns-in_err-read_whole_of_form
returns-in_err-read_whole_of_form c =
    ap length_answered (passed_up _ c.from_residual.ensures.1) ∙ export_length_refused _ c.in_err-read_whole_of_form.ensures (number_not_0 _)

pub file_length-requires : goal.file_length-requires
file_length-requires c = export_sized _ c.in_ok-read_whole_of_form.ensures refl

pub overflow_cast-result : goal.overflow_cast-result
overflow_cast-result c =
    omega (arith, c.file_length.ensures, blocks_fit (known c.in_ok-read_whole_of_form.field-0) (export_sized _ c.in_ok-read_whole_of_form.ensures refl))

pub returns : goal.returns
returns c = export_length_is _ c.in_ok-read_whole_of_form.ensures refl c.file_length.ensures
