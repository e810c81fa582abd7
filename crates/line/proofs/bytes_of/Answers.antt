-- `bytes_of` meets its contract.
-- Assumes nothing.
use Rattle.bits.specs.Stream.{held}
use Rattle.bits.specs.Writer.{written}
use Rattle.line.proofs.bytes_of.Goals as goal

pub returns : goal.returns
unfolding held written
returns c = c.finish.ensures
