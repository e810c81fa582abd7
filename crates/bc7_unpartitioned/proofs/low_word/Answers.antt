-- The low half of a word.
-- Assumes nothing.
use Rattle.bc7_unpartitioned.proofs.Crossing.{low_half}
use Rattle.bc7_unpartitioned.proofs.low_word.Goals as goal

pub returns : goal.returns
returns c = low_half c.args.x
