-- `rinchovek_dds_import_colour`: what `import_dds` answers and leaves, the head in four numbers.
-- Assumes nothing.
use mathlib.Core.Path.{refl}
use Rattle.refusals.proofs.Answers.{number_not_0}
use Rattle.rinchovek_rules.proofs.Importing.{imports_refused, imports_with_head}
use Rattle.rinchovek.proofs.rinchovek_dds_import_colour.Goals as goal

pub returns-in-Err : goal.returns-in-Err
returns-in-Err c = rw c.number.ensures (imports_refused _ _ c.in-Err.ensures _ (number_not_0 _))

pub returns-in-Ok : goal.returns-in-Ok
returns-in-Ok c = imports_with_head _ _ c.in-Ok.ensures refl _ c.number_of.ensures
