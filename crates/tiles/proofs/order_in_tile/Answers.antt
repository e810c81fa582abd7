-- `tiles::order_in_tile` meets its contract.
-- Assumes nothing.
use Rattle.tiles.proofs.Sizes.{tile_sum}
use Rattle.tiles.proofs.order_in_tile.Goals as goal
use Rattle.tiles.proofs.order_in_tile.Goals.{After-blocks_ahead-second}

pub returns : goal.returns
returns c =
    let second = c.before in
    let high = second.before in
    let wide = high.before in
    let first = wide.before in
    tile_sum _ _ _ _ first.requires wide.cell_side-w4.ensures high.cell_side-h4.ensures c.cell_side.ensures
    first.blocks_ahead-first.ensures.is second.blocks_ahead-second.ensures.is
