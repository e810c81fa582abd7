-- `rows::put_sheet_row` meets its contract.
-- Assumes nothing.
use Prim.Native.Nat.{◌-◌, ◌≤◌}
use Rattle.sheet_rules.specs.SheetRows.{row_blocks}
use Rattle.sheet.proofs.rows.Columns.{Columns}
use Rattle.sheet.proofs.rows.put_sheet_row.Given as goal

abbrev pub invariant-loop-c : goal.invariant-loop-c
invariant-loop-c l = (l.c ≤ l.columns) × Columns l.head.width l.scanlines (row_blocks l.sheet l.row) l.c l.out

abbrev pub decreases-loop-c : goal.decreases-loop-c
decreases-loop-c l = l.columns - l.c
