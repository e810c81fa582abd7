-- `rinchovek_dds_import`: what `import_dds` answers and leaves, without the head.
-- Assumes nothing.
use Rattle.rinchovek_rules.proofs.Importing.{imports}
use Rattle.rinchovek.proofs.rinchovek_dds_import.Goals as goal

pub returns-in-Ok : goal.returns-in-Ok
returns-in-Ok c = imports _ _ c.in-Ok.ensures

pub returns-in-Err : goal.returns-in-Err
returns-in-Err c = rw c.number.ensures (imports _ _ c.in-Err.ensures)
