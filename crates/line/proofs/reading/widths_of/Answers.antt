-- `reading::widths_of` meets its contract.
-- Assumes nothing.
use Rattle.line.specs.Reading.{widths_in}
use Rattle.line.proofs.reading.widths_of.Goals as goal

pub returns : goal.returns
unfolding widths_in
returns c = rw c.index_widths.ensures
