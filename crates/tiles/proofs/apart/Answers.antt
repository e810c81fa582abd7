-- `tiles::apart` meets its contract.
-- Assumes nothing.
use Rattle.tiles.proofs.Bits.{spread_is}
use Rattle.tiles.proofs.apart.Goals as goal

pub returns : goal.returns
returns c = spread_is c.args.v
