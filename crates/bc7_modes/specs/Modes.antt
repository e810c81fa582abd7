-- What the code holds of a mode: its row of the table, with the kind of split and the number of endpoints beside it.
-- Assumes nothing.
use Rattle.std.specs.Prelude.{◌≡◌, List, ℕ, ◌<◌}
use Rattle.bc7_modes.specs.declared.ModeRow.{ModeRow}
use Rattle.bc7_format.specs.Modes.{alpha_bits, colour_bits, endpoint_count, first_bits, index_mode_bits, kind_of_mode, lines, mode_of, p_count, partition_bits}
use Rattle.bc7_format.specs.Modes.{rotation_bits, second_bits}

-- a row, its columns in the order of the struct
abbrev pub mode_row_as : ℕ → ℕ → ℕ → ℕ → ℕ → ℕ → ℕ → ℕ → ℕ → ℕ → ℕ → ModeRow
mode_row_as l k e p r i c a b x y = record {
  lines = l;
  kind = k;
  endpoints = e;
  partition = p;
  rotation = r;
  index_mode = i;
  colour = c;
  alpha = a;
  p = b;
  first = x;
  second = y;
}

abbrev pub mode_row_of : ℕ → ModeRow
mode_row_of m =
    mode_row_as (lines m) (kind_of_mode m) (endpoint_count m) (partition_bits m) (rotation_bits m) (index_mode_bits m) (colour_bits m) (alpha_bits m) (p_count m)
    (first_bits m) (second_bits m)

-- the row of one of the eight modes
pub record OfMode (row : ModeRow) : Type 0 where
  pub mode : ℕ
  pub low : mode < 8
  pub is : row ≡ mode_row_of mode

-- a mode and its row
pub record IsRow (mode : ℕ) (row : ModeRow) : Type 0 where
  pub low : mode < 8
  pub is : row ≡ mode_row_of mode

-- the mode of a block that is not reserved, and its row
pub record OfBlock (bs : List ℕ) (mode : ℕ) (row : ModeRow) : Type 0 where
  pub mode_is : mode ≡ mode_of bs
  pub low : mode < 8
  pub mode_row_is : row ≡ mode_row_of mode
