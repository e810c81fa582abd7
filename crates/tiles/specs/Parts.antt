-- Bits spread and drawn together; a block of a sheet, a cell and a block of a tile as they are asked for; and what was found.
-- Assumes nothing.
use Rattle.std.specs.Prelude.{ℕ, ◌+◌, ◌*◌, ◌/◌, ◌%◌, ◌<◌, ◌≤◌, ◌≡◌}
use Rattle.tile_rules.specs.Computed.{cell_at, column_in_tile, row_in_tile}
use Rattle.tile_rules.specs.Tiles.{most_across}
use Rattle.tile_rules.specs.declared.Cell.{Cell}
use Rattle.tiles.specs.declared.Spot.{Spot}

abbrev pub spread : ℕ → ℕ
spread v = v % 2 + 4 * (v / 2 % 2) + 16 * (v / 4 % 2)

abbrev pub drawn : ℕ → ℕ
drawn v = v % 2 + 2 * (v / 4 % 2) + 4 * (v / 16 % 2)

-- b is the number of a block, or a stored number, of a sheet of c by r
pub record Numbered (c r b : ℕ) : Type 0 where
  pub wide : c ≤ most_across
  pub high : r ≤ most_across
  pub number : b < r * c

-- cell x, y of side s begins inside w columns and h rows of blocks
pub record Inside (s w h x y : ℕ) : Type 0 where
  pub side : 0 < s
  pub columns : s * x < w
  pub rows : s * y < h
  pub wide : w ≤ most_across
  pub high : h ≤ most_across

-- column x and row y are of a tile of which w columns and h rows are within the sheet
pub record InTile (w h x y : ℕ) : Type 0 where
  pub column : x < w
  pub row : y < h
  pub wide : w ≤ 8
  pub high : h ≤ 8

-- r is n, and below k
pub record Below (k r n : ℕ) : Type 0 where
  pub is : r ≡ n
  pub room : r < k

pub record CellFound (s w h m : ℕ) (r : Cell) : Type 0 where
  pub is : r ≡ cell_at s w h m
  pub columns : s * r.x < w
  pub rows : s * r.y < h
  pub wide : r.w ≤ s
  pub high : r.h ≤ s
  pub number : r.rest < r.h * r.w

pub record SpotFound (w h m : ℕ) (r : Spot) : Type 0 where
  pub column : r.x ≡ column_in_tile w h m
  pub row : r.y ≡ row_in_tile w h m
  pub wide : r.x < 8
  pub high : r.y < 8
