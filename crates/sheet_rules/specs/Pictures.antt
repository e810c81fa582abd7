-- The whole picture of a sheet, and its rows of blocks.
-- Assumes nothing.
use Rattle.std.specs.Prelude.{ℕ, zero, suc, ◌+◌, ◌*◌, ◌/◌, ◌%◌, List, [], ◌++◌, get_or, take, drop}
use Rattle.laws.specs.Tables.{table}
use Rattle.bc7_format.specs.Lines.{pixels}
use Rattle.head_rules.specs.declared.Form.{Form}
use Rattle.head_rules.specs.declared.Form.TheVariants.{Rows}
use Rattle.head_rules.specs.Answers.{Head}
use Rattle.head_rules.specs.Geometry.{across, blocks_of, number_by}
use Rattle.head_rules.specs.Heads.{read_head}
use Rattle.bcn_format.specs.Block.{block_at}
use Rattle.sheet_rules.specs.Rows.{channel, row_out}
use Rattle.sheet_rules.specs.Sheets.{block_by}

-- THE BLOCKS OF A SHEET IN THE ORDER OF A FORM: the bytes of all blocks of the sheet s, whose head is h, as form f stores them, in
-- whatever order s does
unfoldable pub byte_as : Form → Head → List ℕ → ℕ → ℕ
byte_as f h s k = get_or (block_by h s (number_by f (across h.width) (across h.height) (k / 16))) (k % 16) 0

unfoldable pub blocks_as : Form → Head → List ℕ → List ℕ
blocks_as f h s = table (16 * blocks_of h) (byte_as f h s)

-- by their numbers, row by row
abbrev pub all_blocks : List ℕ → List ℕ
all_blocks s = blocks_as Rows (read_head s) s

-- the block that shows pixel x, y, and the number of the pixel in it; `all` is the bytes of all blocks
abbrev pub block_showing : ℕ → List ℕ → ℕ → ℕ → List ℕ
block_showing w all x y = block_at all (16 * (y / 4 * across w + x / 4))

abbrev pub pixel_in : ℕ → ℕ → ℕ
pixel_in x y = 4 * (y % 4) + x % 4

-- the picture: scanline by scanline, red green blue alpha
unfoldable pub picture_byte : ℕ → List ℕ → ℕ → ℕ
picture_byte w all k =
    let x = k % (4 * w) / 4 in
    let y = k / (4 * w) in
    channel (pixels (block_showing w all x y)) (pixel_in x y) (k % 4)

unfoldable pub picture : ℕ → ℕ → List ℕ → List ℕ
picture w h all = table (h * (4 * w)) (picture_byte w all)

-- the bytes of row n of blocks
unfoldable pub row_of : ℕ → List ℕ → ℕ → List ℕ
row_of w all n = take (16 * across w) (drop (16 * (n * across w)) all)

-- what `decode_row` leaves of the first n rows of blocks, one after the other; outs are the outputs that it is lent
unfoldable pub decoded_rows : ℕ → ℕ → List ℕ → (ℕ → List ℕ) → ℕ → List ℕ
decoded_rows w h all outs zero = []
decoded_rows w h all outs (suc n) = decoded_rows w h all outs n ++ row_out w h n (row_of w all n) (outs n)
