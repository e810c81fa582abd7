-- `tiles::number_in_tiles` meets its contract.
-- Assumes nothing.
use Rattle.tiles.proofs.Found.{number_sum, number_whole}
use Rattle.tiles.proofs.number_in_tiles.Goals as goal

pub returns-then-a-eq8-2 : goal.returns-then-a-eq8-2
returns-then-a-eq8-2 c =
    let a = c.before in
    let high = c.before in
    number_whole a.requires a.cell_at-a.ensures high.if-a-eq8.true high.if-a-eq8-2.true c.column_of_slot.ensures
    c.row_of_slot.ensures

pub returns : goal.returns
returns c =
    let a = c.before in
    let t = c.spot_in_tile-t.ensures in
    number_sum a.requires a.cell_at-a.ensures t.column t.row
