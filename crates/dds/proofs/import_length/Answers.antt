-- `import_length` meets its contract.
-- Assumes nothing.
use mathlib.Core.Path.{◌∙◌, ap, refl}
use native.Mathlib.Omega.{arith}
use Rattle.refusals.proofs.Answers.{number_not_0}
use Rattle.head_rules.specs.Answers.{known}
use Rattle.head_rules.proofs.Answers.{passed_up}
use Rattle.dds_rules.specs.Lengths.{length_answered}
use Rattle.dds.proofs.Answers.{blocks_fit, import_length_is, import_length_refused, import_sized, import_start}
use Rattle.dds.proofs.import_length.Goals as goal

pub returns-in_err-read_file : goal.returns-in_err-read_file
returns-in_err-read_file c =
    ap length_answered (passed_up _ c.from_residual.ensures.1) ∙ import_length_refused _ c.in_err-read_file.ensures (number_not_0 _)

pub whole_length-requires : goal.whole_length-requires
whole_length-requires c = import_sized _ c.in_ok-read_file.ensures refl

pub overflow_cast-result : goal.overflow_cast-result
overflow_cast-result c =
    let e = c.in_ok-read_file.ensures in
    omega (arith, c.whole_length.ensures, blocks_fit (known c.in_ok-read_file.field-0) (import_sized _ e refl), import_start _ e refl)

pub returns : goal.returns
returns c = import_length_is _ c.in_ok-read_file.ensures refl c.whole_length.ensures
