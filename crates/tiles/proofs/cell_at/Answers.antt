-- `tiles::cell_at` meets its contract.
-- Assumes nothing.
use native.Mathlib.Nat.{le_of_lt}
use Rattle.tiles.proofs.Found.{column_pos, found, x_in, y_in}
use Rattle.tiles.proofs.cell_at.Goals as goal
use Rattle.tiles.proofs.cell_at.Goals.{Start}

pub cell_side-high-requires : goal.cell_side-high-requires
cell_side-high-requires c = le_of_lt (y_in c.requires.0 c.requires.1 c.requires.2)

pub nonzero_div-x : goal.nonzero_div-x
nonzero_div-x c = let p = c.requires in column_pos p.0 p.1 p.2 _ c.cell_side-high.ensures

pub cell_side-requires : goal.cell_side-requires
cell_side-requires c = let p = c.requires in le_of_lt (x_in p.0 p.1 p.2 _ c.cell_side-high.ensures)

pub nonzero_rem-result : goal.nonzero_rem-result
nonzero_rem-result c = let p = c.requires in column_pos p.0 p.1 p.2 _ c.cell_side-high.ensures

pub returns : goal.returns
returns c = let p = c.requires in found p.0 p.1 p.2 _ c.cell_side-high.ensures _ c.cell_side.ensures
