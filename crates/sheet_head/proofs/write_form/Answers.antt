-- `write_form` meets its contract.
-- Assumes nothing.
use native.Mathlib.Omega.{arith}
use Rattle.head_rules.proofs.Writing.{few_bytes, form_rows, form_tiles}
use Rattle.sheet_head.proofs.write_form.Goals as goal

pub overflow_add-result : goal.overflow_add-result
overflow_add-result c = omega (arith, few_bytes _ _ c.bytes_of-written.ensures)

pub returns-in-Rows : goal.returns-in-Rows
returns-in-Rows c = form_rows _ _ c.bytes_of-written.ensures c.in-Rows.is

pub returns-in-Tiles : goal.returns-in-Tiles
returns-in-Tiles c = form_tiles _ _ c.bytes_of-written.ensures c.in-Tiles.is
