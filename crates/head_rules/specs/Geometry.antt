-- THE GEOMETRY OF A SHEET: columns and rows of blocks, what is shown of a block at an edge, how many blocks there are and where each
-- stands, and how many bytes a row of blocks, its pixels and a whole sheet have.
-- Assumes nothing.
use Rattle.std.specs.Prelude.{ℕ, ◌+◌, ◌-◌, ◌*◌, ◌/◌, min}
use Rattle.tile_rules.specs.Tiles.{number_in_tiles, stored_in_tiles}
use Rattle.head_rules.specs.declared.Form.{Form}
use Rattle.head_rules.specs.declared.Form.TheVariants.{Rows, Tiles}
use Rattle.head_rules.specs.Answers.{Head}
use Rattle.head_rules.specs.Heads.{limit}

-- columns of blocks in a width, rows of blocks in a height
abbrev pub across : ℕ → ℕ
across n = (n + 3) / 4

-- how many scanlines of a height the row of blocks n shows, and how many columns of a width the column of blocks n
abbrev pub side_shown : ℕ → ℕ → ℕ
side_shown side n = min 4 (side - 4 * n)

-- the bytes of a row of blocks, and of so many scanlines of pixels
abbrev pub row_length : ℕ → ℕ
row_length w = 16 * across w

abbrev pub out_length : ℕ → ℕ → ℕ
out_length w scanlines = scanlines * (4 * w)

-- how many blocks a sheet has
unfoldable pub blocks_of : Head → ℕ
blocks_of h = across h.height * across h.width

-- and how many at the most
abbrev pub most_blocks : ℕ
most_blocks = across limit * across limit

-- the stored number of block b of c columns and r rows, how many blocks are stored before it; and the number of the block that has p stored
-- before it: numbers count row by row in both forms
abbrev pub stored_by : Form → ℕ → ℕ → ℕ → ℕ
stored_by Rows c r b = b
stored_by Tiles c r b = stored_in_tiles c r b

abbrev pub number_by : Form → ℕ → ℕ → ℕ → ℕ
number_by Rows c r p = p
number_by Tiles c r p = number_in_tiles c r p

unfoldable pub stored_at : Head → ℕ → ℕ
stored_at h b = stored_by h.form (across h.width) (across h.height) b

unfoldable pub number_at : Head → ℕ → ℕ
number_at h p = number_by h.form (across h.width) (across h.height) p

-- THE PLACE of block b: its first byte in the sheet
unfoldable pub place_of : Head → ℕ → ℕ
place_of h b = h.start + 16 * stored_at h b

-- the bytes of a whole sheet
abbrev pub whole_length : Head → ℕ
whole_length h = h.start + 16 * blocks_of h
