-- `tiles::stored_in_tiles` meets its contract.
-- Assumes nothing.
use Rattle.tiles.proofs.Sizes.{stored_sum, stored_whole}
use Rattle.tiles.proofs.stored_in_tiles.Goals as goal

pub returns-then-cell_side-eq8 : goal.returns-then-cell_side-eq8
returns-then-cell_side-eq8 c =
    let ahead = c.before in
    let whole-rows = ahead.before in
    let high = whole-rows.before in
    let whole-columns = high.before in
    let wide = whole-columns.before in
    stored_whole wide.requires ahead.blocks_ahead-before.ensures.is wide.cell_side-w.ensures high.cell_side.ensures
    whole-columns.if-w-eq8.true
    whole-rows.if-cell_side-eq8.true c.interleave.ensures

pub returns : goal.returns
returns c =
    let high = c.before in
    let ahead = high.before in
    let wide = ahead.before in
    stored_sum wide.requires ahead.blocks_ahead-before-2.ensures.is wide.cell_side-w.ensures high.cell_side-2.ensures
    c.order_in_tile.ensures.is
