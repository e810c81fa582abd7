-- `tiles::spot_in_tile` meets its contract.
-- Assumes nothing.
use Rattle.tiles.proofs.Found.{spot}
use Rattle.tiles.proofs.spot_in_tile.Goals as goal

pub returns : goal.returns
returns c =
    let e = c.before in
    let d = e.before in
    let b = d.before in
    spot b.requires.0 b.requires.1 b.cell_at-b.ensures d.cell_at-d.ensures e.cell_at-e.ensures
