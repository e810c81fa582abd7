-- Sixteen bytes as two words.
-- Assumes nothing.
use Rattle.bits.specs.Stream.{held}
use Rattle.bc6h_modes.specs.Words.{whole}
use Rattle.bc6h_modes.proofs.Words.new.Goals as goal

pub returns : goal.returns
unfolding held whole
returns c = c.new-s.ensures.of
