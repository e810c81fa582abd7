-- `output::put_scanlines` meets its contract.
-- Assumes nothing.
use native.Mathlib.Omega.{arith}
use Rattle.sheet.proofs.output.Columns.{scanlines_all, scanlines_more, scanlines_none}
use Rattle.sheet.proofs.output.put_scanlines.Goals as goal

pub loop-y-init : goal.loop-y-init
loop-y-init c = (omega arith, scanlines_none _ _ _ _ _ c.requires.block.whole)

pub loop-y-preserved : goal.loop-y-preserved
loop-y-preserved c =
    let l = c in
    let i = l in
    let p = i.requires in
    let so_far = i.loop-y.invariant.1 in
    (omega arith, scanlines_more _ _ _ _ p.block.column _ _ i.loop-y-test.true _ p.pixels so_far l.put_scanline.ensures)

pub returns : goal.returns
returns c =
    let p = c.requires.block in
    scanlines_all _ _ _ _ p.column p.whole c.loop-y-test.false c.loop-y.invariant.1
