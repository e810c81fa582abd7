-- The table of modes.
-- Assumes nothing.
use Rattle.std.specs.Prelude.{ℕ, ◌-◌, ◌*◌, [], ◌∷◌, List, eqb, get_or}
use Rattle.laws.specs.Tables.{pick}
use Rattle.bcn_format.specs.Block.{trailing}

pub record ModeColumns : Type 0 where
  pub lines : ℕ
  -- bits of the partition, the rotation, the index mode
  pub partition : ℕ
  pub rotation : ℕ
  pub index_mode : ℕ
  -- bits of a value of red, green or blue, and of alpha
  pub colour : ℕ
  pub alpha : ℕ
  -- how many p bits
  pub ps : ℕ
  -- bits of an index that is stored first, and second
  pub first : ℕ
  pub second : ℕ

abbrev columns : ℕ → ℕ → ℕ → ℕ → ℕ → ℕ → ℕ → ℕ → ℕ → ModeColumns
columns l p r i c a b x y = record { lines = l; partition = p; rotation = r; index_mode = i; colour = c; alpha = a; ps = b; first = x; second = y }

unfoldable pub mode_row : ℕ → ModeColumns
mode_row m =
    get_or
    -- lines | partition, rotation, index mode | colour, alpha | p bits | index widths
    (columns 3 4 0 0 4 0 6 3 0 ∷
    columns 2 6 0 0 6 0 2 3 0 ∷
    columns 3 6 0 0 5 0 0 2 0 ∷
    columns 2 6 0 0 7 0 4 2 0 ∷
    columns 2 0 2 1 5 6 0 2 3 ∷
    columns 2 0 2 0 7 8 0 2 2 ∷
    columns 1 0 0 0 7 7 2 4 0 ∷
    columns 2 6 0 0 5 5 4 2 0 ∷
    [])
    m (columns 0 0 0 0 0 0 0 0 0)

abbrev pub lines : ℕ → ℕ
lines m = (mode_row m).lines

abbrev pub partition_bits : ℕ → ℕ
partition_bits m = (mode_row m).partition

abbrev pub rotation_bits : ℕ → ℕ
rotation_bits m = (mode_row m).rotation

abbrev pub index_mode_bits : ℕ → ℕ
index_mode_bits m = (mode_row m).index_mode

abbrev pub colour_bits : ℕ → ℕ
colour_bits m = (mode_row m).colour

abbrev pub alpha_bits : ℕ → ℕ
alpha_bits m = (mode_row m).alpha

abbrev pub p_count : ℕ → ℕ
p_count m = (mode_row m).ps

abbrev pub first_bits : ℕ → ℕ
first_bits m = (mode_row m).first

abbrev pub second_bits : ℕ → ℕ
second_bits m = (mode_row m).second

-- channel 3 is alpha
abbrev pub channel_bits : ℕ → ℕ → ℕ
channel_bits m c = pick (eqb c 3) (alpha_bits m) (colour_bits m)

-- the index set 0 is the one stored first
abbrev pub index_bits : ℕ → ℕ → ℕ
index_bits m a = pick (eqb a 0) (first_bits m) (second_bits m)

-- 0: whole; 1, 2: two or three subsets; 3: vector and scalar, the modes with a rotation
unfoldable pub kind_of_mode : ℕ → ℕ
kind_of_mode m = pick (eqb (rotation_bits m) 0) (lines m - 1) 3

-- two endpoints a subset; a vector and its scalar share their two
unfoldable pub endpoint_count : ℕ → ℕ
endpoint_count m = pick (eqb (rotation_bits m) 0) (2 * lines m) 2

-- the mode is the count of zero bits that byte 0 ends in, and 8 is reserved
unfoldable pub mode_of : List ℕ → ℕ
mode_of bs = trailing 8 (get_or bs 0 0)
