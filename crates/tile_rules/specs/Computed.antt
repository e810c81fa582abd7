-- The stored number of a block by a few products, with no counting, and its number back: cells of side 8 in the sheet, of side 4, 2 and 1 in
-- the tile.
-- Assumes nothing.
use Rattle.std.specs.Prelude.{ℕ, ◌+◌, ◌-◌, ◌*◌, ◌/◌, ◌%◌, min}
use Rattle.tile_rules.specs.declared.Cell.{Cell}

-- of n columns or rows, those of cell q of side s
abbrev pub left : ℕ → ℕ → ℕ → ℕ
left s n q = min s (n - s * q)

-- of w columns and h rows of blocks, those before the cell in column x and row y of cells of side s
abbrev pub ahead : ℕ → ℕ → ℕ → ℕ → ℕ → ℕ
ahead s w h x y = s * y * w + s * x * left s h y

-- how many of the w by h blocks of a tile are stored before the one in column x and row y
unfoldable pub order_in_tile : ℕ → ℕ → ℕ → ℕ → ℕ
order_in_tile w h x y =
    let a = x / 4 % 2 in
    let b = y / 4 % 2 in
    let w4 = left 4 w a in
    let h4 = left 4 h b in
    let d = x / 2 % 2 in
    let e = y / 2 % 2 in
    let w2 = left 2 w4 d in
    let h2 = left 2 h4 e in
    ahead 4 w h a b + ahead 2 w4 h4 d e + ahead 1 w2 h2 (x % 2) (y % 2)

-- the stored number of the block in column x and row y of a sheet of c by r
unfoldable pub order_at : ℕ → ℕ → ℕ → ℕ → ℕ
order_at c r x y = ahead 8 c r (x / 8) (y / 8) + order_in_tile (left 8 c (x / 8)) (left 8 r (y / 8)) (x % 8) (y % 8)

-- the cell of side s that holds the block with m stored before it, of w columns and h rows: its row and its column of cells, and how many of
-- the cell's own blocks are stored before that one
abbrev pub cell_row : ℕ → ℕ → ℕ → ℕ
cell_row s w m = m / (s * w)

abbrev pub cell_column : ℕ → ℕ → ℕ → ℕ → ℕ
cell_column s w h m = m % (s * w) / (s * left s h (cell_row s w m))

abbrev pub cell_rest : ℕ → ℕ → ℕ → ℕ → ℕ
cell_rest s w h m = m % (s * w) % (s * left s h (cell_row s w m))

unfoldable pub cell_at : ℕ → ℕ → ℕ → ℕ → Cell
cell_at s w h m = record {
  x = cell_column s w h m;
  y = cell_row s w m;
  w = left s w (cell_column s w h m);
  h = left s h (cell_row s w m);
  rest = cell_rest s w h m;
}

-- the row and the column in a tile, of which w columns and h rows are within the sheet, of the block with m of them stored before it
unfoldable pub row_in_tile : ℕ → ℕ → ℕ → ℕ
row_in_tile w h m =
    let b = cell_at 4 w h m in
    let d = cell_at 2 b.w b.h b.rest in
    let e = cell_at 1 d.w d.h d.rest in
    4 * b.y + 2 * d.y + e.y

unfoldable pub column_in_tile : ℕ → ℕ → ℕ → ℕ
column_in_tile w h m =
    let b = cell_at 4 w h m in
    let d = cell_at 2 b.w b.h b.rest in
    let e = cell_at 1 d.w d.h d.rest in
    4 * b.x + 2 * d.x + e.x

-- the number of the block with p stored before it, of a sheet of c by r
unfoldable pub number_from : ℕ → ℕ → ℕ → ℕ
number_from c r p =
    let a = cell_at 8 c r p in
    (8 * a.y + row_in_tile a.w a.h a.rest) * c + (8 * a.x + column_in_tile a.w a.h a.rest)
