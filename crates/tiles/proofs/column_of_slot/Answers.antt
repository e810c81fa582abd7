-- `tiles::column_of_slot` meets its contract.
-- Assumes nothing.
use Rattle.tile_rules.specs.Tiles.{column_of_slot}
use Rattle.tiles.proofs.column_of_slot.Goals as goal

pub returns : goal.returns
unfolding column_of_slot
returns c = c.together.ensures
