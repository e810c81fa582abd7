-- `tiles::blocks_ahead` meets its contract.
-- Assumes nothing.
use Rattle.tiles.proofs.Sizes.{ahead_is}
use Rattle.tiles.proofs.blocks_ahead.Goals as goal

pub returns : goal.returns
returns c = ahead_is _ _ _ _ _ c.requires _ c.cell_side.ensures
