-- `reading::index_widths` meets its contract.
-- Assumes nothing.
use Rattle.laws.proofs.Filled.{filled_all}
use Rattle.line.proofs.reading.index_widths.Goals as goal

pub returns : goal.returns
returns c = filled_all c.loop-pixel.invariant.1 c.loop-pixel-test.false
