-- `rows::put_row` meets its contract.
-- Assumes nothing.
use mathlib.Core.Path.{◌∙◌, ap}
use native.Mathlib.Omega.{arith}
use Rattle.bc7_format.specs.Lines.{pixels}
use Rattle.sheet.proofs.rows.Columns.{columns_all, columns_more}
use Rattle.sheet.proofs.rows.put_row.Goals as goal

pub loop-c-preserved : goal.loop-c-preserved
loop-c-preserved c =
    let p = c in
    let d = p in (
      omega arith,
      columns_more _ _ _ _ _ (d.decode_bc7_block-px.ensures ∙ ap pixels d.load.ensures)
          d.loop-c.invariant.1 p.put_block.ensures,
    )

pub returns : goal.returns
returns c = columns_all _ _ _ (omega arith) (omega arith) c.loop-c.invariant.1
