-- `output::put_scanline` meets its contract.
-- Assumes nothing.
use Rattle.sheet.proofs.output.Scanlines.{scanline_more, scanline_none}
use Rattle.sheet.proofs.output.put_scanline.Goals as goal

pub loop-k-init : goal.loop-k-init
loop-k-init c = scanline_none _ _ _ _

pub loop-k-preserved : goal.loop-k-preserved
loop-k-preserved c = scanline_more _ _ _ _ _ _ _ c.loop-k.invariant c.put_pixel.ensures
