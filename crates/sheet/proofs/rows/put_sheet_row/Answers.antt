-- `rows::put_sheet_row` meets its contract.
-- Assumes nothing.
use mathlib.Core.Path.{◌∙◌, ap}
use Prim.Native.Nat.{◌<◌}
use native.Mathlib.Omega.{arith}
use Rattle.bc7_format.specs.Lines.{pixels}
use Rattle.sheet.proofs.rows.Columns.{columns_all, columns_more}
use Rattle.sheet.proofs.rows.SheetColumns.{asked_in, block_in_is, room_in, size_in, small_in}
use Rattle.sheet.proofs.rows.put_sheet_row.Goals as goal

pub blocks_across-columns-requires : goal.blocks_across-columns-requires
blocks_across-columns-requires c = omega (arith, (size_in c.requires).within_wide)

pub overflow_mul-row : goal.overflow_mul-row
overflow_mul-row c =
    let n = c.blocks_across-columns in
    let a = c in
    let h : c.loop-c.c < n.result = omega arith in
    omega (arith, small_in a.requires n.ensures h)

pub overflow_add-row : goal.overflow_add-row
overflow_add-row c =
    let n = c.blocks_across-columns in
    let a = c in
    let h : c.loop-c.c < n.result = omega arith in
    omega (arith, small_in a.requires n.ensures h)

pub place_of-at-requires : goal.place_of-at-requires
place_of-at-requires c =
    let n = c.blocks_across-columns in
    let a = c in
    let h : c.loop-c.c < n.result = omega arith in
    asked_in a.requires n.ensures h

pub load-requires : goal.load-requires
load-requires c =
    let n = c.blocks_across-columns in
    let a = c in
    let h : c.loop-c.c < n.result = omega arith in
    room_in a.requires n.ensures h c.place_of-at.ensures

pub put_block-requires : goal.put_block-requires
put_block-requires c =
    let n = c.blocks_across-columns in
    let a = c in
    let h : c.loop-c.c < n.result = omega arith in
    record {
      scanlines = a.requires.scanlines;
      column = omega (arith, h, n.ensures);
      width = omega (arith, (size_in a.requires).within_wide);
      whole = c.loop-c.invariant.1.long;
    }

pub loop-c-preserved : goal.loop-c-preserved
loop-c-preserved c =
    let n = c.blocks_across-columns in
    let a = c in
    let decoded = c in
    let h : c.loop-c.c < n.result = omega arith in (
      omega arith,
      columns_more _ _ _ _ _ (decoded.decode_bc7_block-px.ensures
          ∙ ap pixels (decoded.load.ensures ∙ block_in_is a.requires n.ensures h decoded.place_of-at.ensures))
          c.loop-c.invariant.1 c.put_block.ensures,
    )

pub returns : goal.returns
returns c =
    let across = c in
    columns_all _ _ _ (omega (arith, (size_in across.requires).wide)) (omega (arith, across.blocks_across-columns.ensures))
    c.loop-c.invariant.1
