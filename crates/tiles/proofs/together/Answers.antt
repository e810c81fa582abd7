-- `tiles::together` meets its contract.
-- Assumes nothing.
use Rattle.tiles.proofs.Bits.{drawn_is}
use Rattle.tiles.proofs.together.Goals as goal

pub returns : goal.returns
returns c = drawn_is c.args.v
