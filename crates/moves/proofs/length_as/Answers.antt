-- `length_as` meets its contract.
-- Assumes nothing.
use Rattle.moves.proofs.Laying.{length_is}
use Rattle.moves.proofs.length_as.Goals as goal

pub returns : goal.returns
returns c = length_is _ _ c.write_form-written.ensures c.blocks_of.ensures.same
