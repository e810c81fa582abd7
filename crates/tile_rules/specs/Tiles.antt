-- Tile order: the blocks of a sheet of c columns and r rows of blocks in tiles of 8 by 8, tiles row by row; of a slot in its tile the
-- even bits are the column's and the odd ones the row's; slots beyond the sheet are skipped, and nothing is stored for them.
-- Assumes nothing.
use Rattle.std.specs.Prelude.{ℕ, ◌+◌, ◌*◌, ◌/◌, ◌%◌, Bool, List, map, ltb, get_or}
use Rattle.laws.specs.Tables.{both}
use Rattle.laws.specs.Counting.{count, kept}

-- the blocks of a tile; and the most columns or rows of blocks that a sheet has, those of its largest side
abbrev pub tile_blocks : ℕ
tile_blocks = 64

abbrev pub most_across : ℕ
most_across = 4096

-- slot p of the 64 of a tile: its column's bits are the even ones of p, its row's the odd ones
unfoldable pub column_of_slot : ℕ → ℕ
column_of_slot p = p % 2 + 2 * (p / 4 % 2) + 4 * (p / 16 % 2)

unfoldable pub row_of_slot : ℕ → ℕ
row_of_slot p = p / 2 % 2 + 2 * (p / 8 % 2) + 4 * (p / 32 % 2)

unfoldable pub slot_in : ℕ → ℕ → ℕ
slot_in x y = x % 2 + 2 * (y % 2) + 4 * (x / 2 % 2) + 8 * (y / 2 % 2) + 16 * (x / 4 % 2) + 32 * (y / 4 % 2)

-- tiles in n columns or rows of blocks
unfoldable pub tiles : ℕ → ℕ
tiles n = (n + 7) / 8

-- slot s of a sheet, beyond it or not: slot s % 64 of tile s / 64, tiles row by row
unfoldable pub column_at : ℕ → ℕ → ℕ
column_at c s = 8 * (s / 64 % tiles c) + column_of_slot (s % 64)

unfoldable pub row_at : ℕ → ℕ → ℕ
row_at c s = 8 * (s / 64 / tiles c) + row_of_slot (s % 64)

unfoldable pub in_sheet : ℕ → ℕ → ℕ → Bool
in_sheet c r s = both (ltb (column_at c s) c) (ltb (row_at c s) r)

-- the number of the block there, row by row
unfoldable pub number_in_slot : ℕ → ℕ → ℕ
number_in_slot c s = row_at c s * c + column_at c s

unfoldable pub slots : ℕ → ℕ → ℕ
slots c r = tiles r * tiles c * 64

-- THE ORDER: the numbers of the blocks as they are stored; and the number of the block that has p stored before it
unfoldable pub stored_order : ℕ → ℕ → List ℕ
stored_order c r = map (number_in_slot c) (kept (slots c r) (in_sheet c r))

unfoldable pub number_in_tiles : ℕ → ℕ → ℕ → ℕ
number_in_tiles c r p = get_or (stored_order c r) p 0

-- the slot of block b; and its stored number: how many blocks are stored before it
unfoldable pub slot_of : ℕ → ℕ → ℕ
slot_of c b = (b / c / 8 * tiles c + b % c / 8) * 64 + slot_in (b % c % 8) (b / c % 8)

unfoldable pub stored_in_tiles : ℕ → ℕ → ℕ → ℕ
stored_in_tiles c r b = count (slot_of c b) (in_sheet c r)
