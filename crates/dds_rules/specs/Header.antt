-- THE HEADER OF A DDS FILE, by Microsoft's guide: the magic, DDS_HEADER with its DDS_PIXELFORMAT, and DDS_HEADER_DXT10. It is 37 numbers
-- of four bytes each, the low byte first, 148 bytes in all; the blocks stand behind it.
-- Assumes nothing.
use Rattle.std.specs.Prelude.{ℕ, ◌+◌, ◌*◌, ◌/◌, ◌%◌, ◌^◌, ◌≤◌, ◌<◌, ◌≡◌, ◌≢◌, Bool, List, [], ◌∷◌, eqb, leb, length, get_or}
use Rattle.head_rules.specs.declared.ColourSpace.{ColourSpace}
use Rattle.head_rules.specs.declared.ColourSpace.TheVariants.{Unspecified, Linear, Srgb}
use Rattle.head_rules.specs.Answers.{Head}
use Rattle.head_rules.specs.Geometry.{blocks_of}
use Rattle.laws.specs.Digits.{evenly}
use Rattle.laws.specs.Tables.{both, pick, table}

pub data Field : Type 0 where
  magic : Field
  header_size : Field
  header_flags : Field
  height : Field
  width : Field
  linear_size : Field
  depth : Field
  mip_count : Field
  reserved : Field
  format_size : Field
  format_flags : Field
  format_code : Field
  bit_count : Field
  red_mask : Field
  green_mask : Field
  blue_mask : Field
  alpha_mask : Field
  caps : Field
  caps2 : Field
  caps3 : Field
  caps4 : Field
  reserved2 : Field
  format : Field
  dimension : Field
  misc : Field
  array_size : Field
  misc2 : Field

-- THE TABLE: the byte at which each field starts, in the guide's order. The height comes before the width
abbrev pub offset : Field → ℕ
offset magic = 0
offset header_size = 4
offset header_flags = 8
offset height = 12
offset width = 16
offset linear_size = 20
offset depth = 24
offset mip_count = 28
-- eleven numbers
offset reserved = 32
-- DDS_PIXELFORMAT
offset format_size = 76
offset format_flags = 80
offset format_code = 84
offset bit_count = 88
offset red_mask = 92
offset green_mask = 96
offset blue_mask = 100
offset alpha_mask = 104
-- DDS_HEADER again
offset caps = 108
offset caps2 = 112
offset caps3 = 116
offset caps4 = 120
offset reserved2 = 124
-- DDS_HEADER_DXT10
offset format = 128
offset dimension = 132
offset misc = 136
offset array_size = 140
offset misc2 = 144

abbrev pub header_length : ℕ
header_length = 148

-- the number whose four bytes start at a byte of a file, and byte j of a number
unfoldable pub number_at : List ℕ → ℕ → ℕ
number_at bs at = evenly 4 8 (λ j. get_or bs (at + j) 0)

abbrev pub byte_of : ℕ → ℕ → ℕ
byte_of n j = n / 2 ^ (j * 8) % 2 ^ 8

abbrev pub field_in : List ℕ → Field → ℕ
field_in dds f = number_at dds (offset f)

-- WHAT EXPORT WRITES for a sheet with the head h: these fields, and 0 in every other. The linear size is the bytes of all blocks
pub record Entry : Type 0 where
  pub field : Field
  pub value : ℕ

abbrev is : Field → ℕ → Entry
is f v = record { field = f; value = v }

-- 'DDS ' and 'DX10'
abbrev pub dds_magic : ℕ
dds_magic = 0x20534444

abbrev pub dx10_code : ℕ
dx10_code = 0x30315844

-- THE FORMAT AND THE COLOUR SPACE: which of BC7's two formats export writes under each, and what a file's format says
abbrev pub format_of : ColourSpace → ℕ
format_of Unspecified = 98
format_of Linear = 98
format_of Srgb = 99

unfoldable pub format_says : ℕ → ColourSpace
format_says n = pick (eqb n 99) Srgb Linear

unfoldable pub entries : Head → List Entry
entries h =
    is magic dds_magic ∷
    is header_size 124 ∷
    is header_flags 0x81007 ∷
    is height h.height ∷
    is width h.width ∷
    is linear_size (16 * blocks_of h) ∷
    is mip_count 1 ∷
    is format_size 32 ∷
    is format_flags 4 ∷
    is format_code dx10_code ∷
    is caps 0x1000 ∷
    is format (format_of h.colour_space) ∷
    is dimension 3 ∷
    is array_size 1 ∷
    []

-- the number that entries have at a byte
abbrev pub entry_at : List Entry → ℕ → ℕ
entry_at [] at = 0
entry_at (e ∷ es) at = pick (eqb at (offset e.field)) e.value (entry_at es at)

-- number i of the 37; byte k of numbers; and the 148 bytes
unfoldable pub header_number : Head → ℕ → ℕ
header_number h i = entry_at (entries h) (4 * i)

abbrev pub bytes_in : List ℕ → ℕ → ℕ
bytes_in numbers k = byte_of (get_or numbers (k / 4) 0) (k % 4)

unfoldable pub canonical_header : Head → List ℕ
canonical_header h = table header_length (bytes_in (table 37 (header_number h)))

-- WHAT IMPORT LOOKS AT: one texture of two dimensions in BC7, with one level at the most, and no cube. Every other field may be anything
abbrev pub cube_bit : ℕ → ℕ
cube_bit n = n / 4 % 2

unfoldable pub is_texture : List ℕ → Bool
is_texture dds =
    both (leb header_length (length dds))
    (both (eqb (field_in dds magic) dds_magic)
    (both (eqb (field_in dds header_size) 124)
    (both (eqb (field_in dds format_size) 32)
    (both (eqb (field_in dds format_code) dx10_code)
    (both (both (leb 98 (field_in dds format)) (leb (field_in dds format) 99))
    (both (eqb (field_in dds dimension) 3)
    (both (eqb (field_in dds array_size) 1)
    (both (leb (field_in dds mip_count) 1)
    (eqb (cube_bit (field_in dds misc)) 0)))))))))

-- in words
pub record Texture (dds : List ℕ) : Type 0 where
  pub long : header_length ≤ length dds
  pub magic_is : field_in dds magic ≡ dds_magic
  pub header_size_is : field_in dds header_size ≡ 124
  pub format_size_is : field_in dds format_size ≡ 32
  pub code_is : field_in dds format_code ≡ dx10_code
  pub format_from : 98 ≤ field_in dds format
  pub format_to : field_in dds format ≤ 99
  pub dimension_is : field_in dds dimension ≡ 3
  pub array_size_is : field_in dds array_size ≡ 1
  pub few_levels : field_in dds mip_count ≤ 1
  pub no_cube : cube_bit (field_in dds misc) ≡ 0

-- and what is not one, ground by ground
pub data Another (dds : List ℕ) : Type 0 where
  short : length dds < header_length → Another dds
  other_magic : field_in dds magic ≢ dds_magic → Another dds
  other_header_size : field_in dds header_size ≢ 124 → Another dds
  other_format_size : field_in dds format_size ≢ 32 → Another dds
  other_code : field_in dds format_code ≢ dx10_code → Another dds
  other_format : field_in dds format ≢ 98 → field_in dds format ≢ 99 → Another dds
  other_dimension : field_in dds dimension ≢ 3 → Another dds
  other_array_size : field_in dds array_size ≢ 1 → Another dds
  other_mip_count : field_in dds mip_count ≢ 0 → field_in dds mip_count ≢ 1 → Another dds
  cube : cube_bit (field_in dds misc) ≡ 1 → Another dds
