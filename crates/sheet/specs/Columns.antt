-- The scanlines of a block, laid into their column of a row.
-- Assumes nothing.
use Rattle.std.specs.Prelude.{◌≡◌, ℕ, ◌+◌, ◌*◌, ◌/◌, ◌%◌, ◌≤◌, ◌<◌, List, eqb, length, get_or}
use Rattle.head_rules.specs.Answers.{Head}
use Rattle.laws.specs.Tables.{pick, table}
use Rattle.head_rules.specs.Geometry.{across, out_length, row_length, side_shown, whole_length}
use Rattle.head_rules.specs.Heads.{read_head}
use Rattle.sheet_rules.specs.Rows.{channel}

-- byte j of scanline y of a block
abbrev pub scanline_byte : List (List ℕ) → ℕ → ℕ → ℕ
scanline_byte px y j = channel px (4 * y + j / 4) (j % 4)

-- the output with the pixels of column c laid in: scanlines are 4 · w bytes long, a block's part of one is 16
unfoldable pub column_byte : ℕ → List (List ℕ) → ℕ → List ℕ → ℕ → ℕ
column_byte w px c out k = pick (eqb (k % (4 * w) / 16) c) (scanline_byte px (k / (4 * w)) (k % (4 * w) % 16)) (get_or out k 0)

unfoldable pub with_column : ℕ → List (List ℕ) → ℕ → List ℕ → List ℕ
with_column w px c out = table (length out) (column_byte w px c out)

-- What laying pixels down asks, each clause by its name, with so much room: n pixels of scanline y
pub record InScanline (y n at room : ℕ) : Type 0 where
  pub scanline : y < 4
  pub pixels : n ≤ 4
  pub inside : at + 4 * n ≤ room

-- s scanlines of a block in column c of a row that is w pixels wide, and n pixels of each
pub record InColumn (c w s room : ℕ) : Type 0 where
  pub scanlines : s ≤ 4
  pub column : 4 * c < w
  pub width : w ≤ 65536
  pub whole : room ≡ out_length w s

pub record ShownInColumn (c w n s room : ℕ) : Type 0 where
  pub block : InColumn c w s room
  pub pixels : n ≡ side_shown w c

-- s scanlines of a whole row, of which so many bytes are given
pub record WholeRow (w s given room : ℕ) : Type 0 where
  pub scanlines : s ≤ 4
  pub some : 0 < w
  pub width : w ≤ 65536
  pub blocks : given ≡ row_length w
  pub whole : room ≡ out_length w s

-- s scanlines of a row of a whole sheet whose head is h
pub record SheetRow (h : Head) (row s : ℕ) (sheet : List ℕ) (room : ℕ) : Type 0 where
  pub head : h ≡ read_head sheet
  pub told : h.refusal ≡ 0
  pub long : length sheet ≡ whole_length h
  pub inside : row < across h.height
  pub scanlines : s ≤ 4
  pub whole : room ≡ out_length h.width s
