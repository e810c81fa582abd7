-- WHAT HOLDS THE DEFINITIONS OF A HEAD: numbers and heads with their bytes, written out, at both ends of what is accepted.
-- Assumes nothing.
use mathlib.Core.Path.{◌≡◌, refl, ap, sym}
use mathlib.Core.List.{List, [], ◌∷◌, map}
use Prim.Native.Nat.{ℕ}
use lib.ListN.{get_or}
use Rattle.std.specs.Prelude.{Result, Ok, Err}
use Rattle.refusals.specs.declared.Refusal.{Refusal}
use Rattle.refusals.specs.declared.Refusal.TheVariants.{BadNumber, BadSide}
use Rattle.head_rules.specs.declared.HeadBytes as bytes
use Rattle.head_rules.specs.declared.ColourSpace.{ColourSpace}
use Rattle.head_rules.specs.declared.ColourSpace.TheVariants.{Unspecified, Linear, Srgb}
use Rattle.head_rules.specs.declared.Head as heads
use Rattle.head_rules.specs.declared.Form.TheVariants.{Rows, Tiles}
use Rattle.head_rules.specs.Answers.{Head, HeadBytes, Number}
use lib.ListN.{replicate}
use Rattle.laws.specs.Padding.{padded}
use Rattle.laws.specs.Refusals.{first}
use Rattle.laws.proofs.Tests.{eqb_of}
use Rattle.head_rules.specs.Colours.{colour_number, colour_of, colour_refusal}
use Rattle.head_rules.specs.Heads.{bytes_of_head, colour_in, form_in, form_number, form_of, head_bytes, head_refusal_up_to, height_in, limit, old_head}
use Rattle.head_rules.specs.Heads.{of_form_refusal_up_to, read_head, read_head_up_to, read_of_form, read_of_form_up_to, size_refusal_up_to, tiled_bytes}
use Rattle.head_rules.specs.Heads.{ReadsHead, WritesHead, of_form_refusal_with, read_of_form_with, under, width_in, write_head, write_head_up_to}
use Rattle.head_rules.specs.declared.Stage.TheVariants.{Width}
use Rattle.laws.specs.Counting.{count}
use Rattle.tile_rules.specs.Tiles.{column_at, column_of_slot, in_sheet, most_across, row_at, row_of_slot, slot_in, slot_of, stored_in_tiles, tiles}
use Rattle.head_rules.specs.Geometry.{across, blocks_of, out_length, place_of, row_length, side_shown, stored_at, whole_length}
use Rattle.head_rules.specs.Reader.{Reading, at_form, byte_taken, colour_taken, form_taken, group_taken, last_taken, read_by, size_taken}
use Rattle.head_rules.specs.Numbers.{groups, number_bytes, raised, read_groups, read_number}
use Rattle.head_rules.specs.Whole.{whole_head, whole_refusal}

-- what was read: the number and the place behind it; or nothing
abbrev number : ℕ → ℕ → Number
number n next = record { refusal = 0; value = n; next = next }

abbrev none : Number
none = record { refusal = 7; value = 0; next = 0 }

-- a head that was read, and one that was not: form 1 says nothing of the colour space
abbrev head : ℕ → ℕ → ℕ → Head
head w h start = record { refusal = 0; form = Rows; width = w; height = h; start = start; colour_space = Unspecified }

abbrev no_head : ℕ → Head
no_head r = record { refusal = r; form = Rows; width = 0; height = 0; start = 0; colour_space = Unspecified }

-- a height beside a refusal
abbrev refused_beside : ℕ → ℕ → Head
refused_beside r h = record { refusal = r; form = Rows; width = 0; height = h; start = 0; colour_space = Unspecified }

-- a head that says something of it
abbrev head_srgb : Head
head_srgb = record { refusal = 0; form = Rows; width = 5; height = 6; start = 3; colour_space = Srgb }

-- a head of form 2
abbrev tiled : ColourSpace → ℕ → ℕ → ℕ → Head
tiled c w h start = record { refusal = 0; form = Tiles; width = w; height = h; start = start; colour_space = c }

-- and what a call answers that read one
abbrev told : ℕ → ℕ → ℕ → Result heads.Head Refusal
told w h start = Ok (record { form = Rows; width = w; height = h; start = start; colour_space = Unspecified })

abbrev told_tiled : ColourSpace → ℕ → ℕ → ℕ → Result heads.Head Refusal
told_tiled c w h start = Ok (record { form = Tiles; width = w; height = h; start = start; colour_space = c })

-- what was read byte by byte, and the bytes behind it
abbrev reading : Head → List ℕ → Reading
reading h rest = record { head = h; rest = rest }

-- a head that was written
abbrev written : ℕ → List ℕ → ℕ → HeadBytes
written r bs n = record { refusal = r; bytes = bs; count = n }

-- and what a call answers that wrote it
abbrev wrote : List ℕ → ℕ → Result bytes.HeadBytes Refusal
wrote bs n = Ok (record { bytes = bs; count = n })

-- sheets of 5 by 9 pixels, six blocks, of either form: a head, and so many bytes behind it
abbrev in_rows : ℕ → List ℕ
in_rows n = 0x01 ∷ 0x05 ∷ 0x09 ∷ replicate n 0

abbrev in_tiles : ℕ → List ℕ
in_tiles n = 0x02 ∷ 0x05 ∷ 0x09 ∷ 0x02 ∷ replicate n 0

pub record Heads : Type 0 where
  pub numbers_written : map number_bytes (0 ∷ 127 ∷ 128 ∷ 16383 ∷ 16384 ∷ 2097151 ∷ [])
      ≡ (0x00 ∷ []) ∷ (0x7F ∷ []) ∷ (0x80 ∷ 0x01 ∷ []) ∷ (0xFF ∷ 0x7F ∷ []) ∷ (0x80 ∷ 0x80 ∷ 0x01 ∷ []) ∷ (0xFF ∷ 0xFF ∷ 0x7F ∷ []) ∷ []
  pub numbers_read : map (λ (s : List ℕ). read_number s 1)
      ((9 ∷ 0x00 ∷ []) ∷ (9 ∷ 0x80 ∷ 0x01 ∷ []) ∷ (9 ∷ 0xFF ∷ 0xFF ∷ 0x7F ∷ 9 ∷ []) ∷
      (9 ∷ []) ∷ (9 ∷ 0x80 ∷ []) ∷ (9 ∷ 0x81 ∷ 0x00 ∷ []) ∷ (9 ∷ 0x80 ∷ 0x80 ∷ 0x80 ∷ 0x01 ∷ []) ∷ [])
      ≡ number 0 2 ∷ number 128 3 ∷ number 2097151 4 ∷ none ∷ none ∷ none ∷ none ∷ []
  pub heads_read : map read_head
      ((0x01 ∷ 0x05 ∷ 0x06 ∷ 0x60 ∷ []) ∷ (0x01 ∷ 0x01 ∷ 0x01 ∷ []) ∷ (0x01 ∷ 0x80 ∷ 0x80 ∷ 0x01 ∷ 0x80 ∷ 0x80 ∷ 0x01 ∷ []) ∷
      (0x80 ∷ []) ∷ (0x03 ∷ 0x80 ∷ []) ∷ (0x01 ∷ 0x00 ∷ 0x80 ∷ []) ∷
      (0x01 ∷ 0x00 ∷ 0x01 ∷ []) ∷ (0x01 ∷ 0x81 ∷ 0x80 ∷ 0x01 ∷ 0x01 ∷ []) ∷ (0x01 ∷ 0x01 ∷ 0x81 ∷ 0x80 ∷ 0x01 ∷ []) ∷ [])
      ≡ head 5 6 3 ∷ head 1 1 3 ∷ head 16384 16384 7 ∷ no_head 7 ∷ no_head 8 ∷ no_head 7 ∷ no_head 9 ∷ no_head 9 ∷ no_head 9 ∷ []
  -- form 2 with each colour space, and the largest; cut off, not the shortest, over three groups; then 18, before 9; and 9
  pub tiled_read : map read_head
      ((0x02 ∷ 0x05 ∷ 0x06 ∷ 0x00 ∷ 0x60 ∷ []) ∷ (0x02 ∷ 0x05 ∷ 0x06 ∷ 0x01 ∷ []) ∷
      (0x02 ∷ 0x80 ∷ 0x80 ∷ 0x01 ∷ 0x80 ∷ 0x80 ∷ 0x01 ∷ 0x02 ∷ []) ∷ (0x02 ∷ 0x00 ∷ 0x04 ∷ []) ∷ (0x02 ∷ 0x05 ∷ 0x06 ∷ 0x80 ∷ 0x00 ∷ []) ∷
      (0x02 ∷ 0x05 ∷ 0x06 ∷ 0x80 ∷ 0x80 ∷ 0x80 ∷ 0x01 ∷ []) ∷ (0x02 ∷ 0x00 ∷ 0x04 ∷ 0x03 ∷ []) ∷ (0x02 ∷ 0x05 ∷ 0x06 ∷ 0x80 ∷ 0x01 ∷ []) ∷
      (0x02 ∷ 0x00 ∷ 0x04 ∷ 0x00 ∷ []) ∷ [])
      ≡ tiled Unspecified 5 6 4 ∷ tiled Linear 5 6 4 ∷ tiled Srgb 16384 16384 8 ∷ no_head 7 ∷ no_head 7 ∷ no_head 7 ∷ no_head 18 ∷ no_head 18 ∷
      no_head 9 ∷ []
  pub forms_numbered : map form_number (Rows ∷ Tiles ∷ []) ≡ 1 ∷ 2 ∷ []
  pub tiled_spelt : map bytes_of_head (tiled Unspecified 5 6 4 ∷ tiled Srgb 5 300 5 ∷ [])
      ≡ (0x02 ∷ 0x05 ∷ 0x06 ∷ 0x00 ∷ []) ∷ (0x02 ∷ 0x05 ∷ 0xAC ∷ 0x02 ∷ 0x02 ∷ []) ∷ []
  -- one form only: 8 at the form, whatever stands behind it
  pub only_rows : map (read_of_form Rows) ((0x01 ∷ 0x05 ∷ 0x06 ∷ []) ∷ (0x02 ∷ 0x80 ∷ 0x00 ∷ []) ∷ (0x80 ∷ []) ∷ (0x01 ∷ 0x05 ∷ []) ∷ [])
      ≡ head 5 6 3 ∷ no_head 8 ∷ no_head 7 ∷ no_head 7 ∷ []
  pub only_tiles : map (read_of_form Tiles) ((0x02 ∷ 0x05 ∷ 0x06 ∷ 0x02 ∷ []) ∷ (0x01 ∷ []) ∷ (0x02 ∷ 0x05 ∷ 0x06 ∷ 0x03 ∷ []) ∷ [])
      ≡ tiled Srgb 5 6 4 ∷ no_head 8 ∷ no_head 18 ∷ []
  -- a refusal of a call's own, 18, is looked at behind 7 and 8 and before 9; 0 is none
  pub before_nine : map (read_of_form_with 18 Rows) ((0x01 ∷ 0x05 ∷ []) ∷ (0x02 ∷ []) ∷ (0x01 ∷ 0x00 ∷ 0x06 ∷ []) ∷ (0x01 ∷ 0x05 ∷ 0x06 ∷ []) ∷ [])
      ≡ no_head 7 ∷ no_head 8 ∷ no_head 18 ∷ no_head 18 ∷ []
  pub nothing_before_nine : map (read_of_form_with 0 Rows) ((0x01 ∷ 0x05 ∷ []) ∷ (0x01 ∷ 0x00 ∷ 0x06 ∷ []) ∷ (0x01 ∷ 0x05 ∷ 0x06 ∷ []) ∷ [])
      ≡ no_head 7 ∷ no_head 9 ∷ head 5 6 3 ∷ []
  -- by a console of before: 4,096 by 4,096, 4,097 by 1 and 1 by 4,097; and form 2, small, larger than its limit, and cut off
  pub heads_read_before : map old_head
      ((0x01 ∷ 0x80 ∷ 0x20 ∷ 0x80 ∷ 0x20 ∷ []) ∷ (0x01 ∷ 0x81 ∷ 0x20 ∷ 0x01 ∷ []) ∷ (0x01 ∷ 0x01 ∷ 0x81 ∷ 0x20 ∷ []) ∷
      (0x02 ∷ 0x05 ∷ 0x06 ∷ 0x00 ∷ []) ∷ (0x02 ∷ 0x81 ∷ 0x20 ∷ 0x01 ∷ 0x00 ∷ []) ∷ (0x02 ∷ []) ∷ [])
      ≡ head 4096 4096 5 ∷ no_head 9 ∷ no_head 9 ∷ no_head 8 ∷ no_head 8 ∷ no_head 8 ∷ []
  pub heads_written : write_head 5 6 ∷ write_head 16384 16384 ∷ write_head 0 1 ∷ write_head 16385 1 ∷ write_head 1 16385 ∷ []
      ≡ written 0 (0x01 ∷ 0x05 ∷ 0x06 ∷ 0 ∷ 0 ∷ 0 ∷ 0 ∷ []) 3 ∷ written 0 (0x01 ∷ 0x80 ∷ 0x80 ∷ 0x01 ∷ 0x80 ∷ 0x80 ∷ 0x01 ∷ []) 7 ∷
      written 9 (0 ∷ 0 ∷ 0 ∷ 0 ∷ 0 ∷ 0 ∷ 0 ∷ []) 0 ∷ written 9 (0 ∷ 0 ∷ 0 ∷ 0 ∷ 0 ∷ 0 ∷ 0 ∷ []) 0 ∷ written 9 (0 ∷ 0 ∷ 0 ∷ 0 ∷ 0 ∷ 0 ∷ 0 ∷ []) 0 ∷
      []
  -- 0 unspecified, 1 linear, 2 sRGB, and no number above; the bytes of a head, whatever is said of its colours
  pub colours_numbered : map colour_number (Unspecified ∷ Linear ∷ Srgb ∷ []) ≡ 0 ∷ 1 ∷ 2 ∷ []
  pub colours_of_numbers : map colour_of (0 ∷ 1 ∷ 2 ∷ []) ≡ Unspecified ∷ Linear ∷ Srgb ∷ []
  pub colours_refused : map colour_refusal (0 ∷ 1 ∷ 2 ∷ 3 ∷ 256 ∷ 4294967295 ∷ []) ≡ 0 ∷ 0 ∷ 0 ∷ 18 ∷ 18 ∷ 18 ∷ []
  pub colours_said : map (λ (c : ColourSpace). under c (head 5 6 3)) (Unspecified ∷ Srgb ∷ []) ≡ head 5 6 3 ∷ head_srgb ∷ []
  pub colours_forgotten : map bytes_of_head (head 5 6 3 ∷ head_srgb ∷ []) ≡ (0x01 ∷ 0x05 ∷ 0x06 ∷ []) ∷ (0x01 ∷ 0x05 ∷ 0x06 ∷ []) ∷ []
  -- behind 01 and 85: the width is to come, 5 is its low group, and the form ended at 1
  pub a_state : byte_taken (byte_taken at_form 0x01) 0x85 ≡ record { stage = Width; low = 5; groups = 1; head = head 0 0 1 }
  pub heads_by_bytes : map (read_by at_form)
      ((0x01 ∷ 0x05 ∷ 0x06 ∷ 0x60 ∷ []) ∷ (0x01 ∷ 0x80 ∷ 0x20 ∷ 0x81 ∷ 0x02 ∷ []) ∷ (0x03 ∷ 0x05 ∷ []) ∷ (0x01 ∷ 0x81 ∷ 0x00 ∷ 0x60 ∷ []) ∷
      (0x01 ∷ 0x80 ∷ 0x80 ∷ 0x80 ∷ 0x60 ∷ []) ∷ (0x01 ∷ 0x05 ∷ []) ∷ (0x01 ∷ 0x05 ∷ 0x00 ∷ []) ∷
      (0x02 ∷ 0x05 ∷ 0x06 ∷ 0x01 ∷ 0x60 ∷ []) ∷ (0x02 ∷ 0x00 ∷ 0x06 ∷ 0x03 ∷ 0x60 ∷ []) ∷ (0x02 ∷ 0x05 ∷ 0x06 ∷ []) ∷ [])
      ≡ reading (head 5 6 3) (0x60 ∷ []) ∷ reading (head 4096 257 5) [] ∷ reading (no_head 8) (0x05 ∷ []) ∷ reading (no_head 7) (0x60 ∷ []) ∷
      reading (no_head 7) (0x60 ∷ []) ∷ reading (no_head 7) [] ∷ reading (no_head 9) [] ∷
      reading (tiled Linear 5 6 4) (0x60 ∷ []) ∷ reading (no_head 18) (0x60 ∷ []) ∷ reading (no_head 7) [] ∷ []
  -- columns and rows of blocks, shown scanlines, and of a sheet of 5 by 9 pixels the blocks, the place of block 3, and its length
  pub rounded_up : map across (1 ∷ 4 ∷ 5 ∷ 16383 ∷ 16384 ∷ []) ≡ 1 ∷ 1 ∷ 2 ∷ 4096 ∷ 4096 ∷ []
  pub most_across_is : across limit ≡ most_across
  pub scanlines_shown : map (side_shown 9) (0 ∷ 1 ∷ 2 ∷ []) ≡ 4 ∷ 4 ∷ 1 ∷ []
  pub blocks_placed : blocks_of (head 5 9 3) ∷ place_of (head 5 9 3) 3 ∷ whole_length (head 5 9 3) ∷ row_length 5 ∷ out_length 5 3 ∷ []
      ≡ 6 ∷ 51 ∷ 99 ∷ 32 ∷ 60 ∷ []
  -- 3 by 2 blocks, in rows and in tiles: 0 1 3 4 2 5 is the stored order
  pub blocks_in_rows : map (place_of (head 12 8 3)) (0 ∷ 1 ∷ 2 ∷ 3 ∷ 4 ∷ 5 ∷ []) ≡ 3 ∷ 19 ∷ 35 ∷ 51 ∷ 67 ∷ 83 ∷ []
  pub blocks_in_tiles : map (place_of (tiled Unspecified 12 8 4)) (0 ∷ 1 ∷ 3 ∷ 4 ∷ 2 ∷ 5 ∷ []) ≡ 4 ∷ 20 ∷ 36 ∷ 52 ∷ 68 ∷ 84 ∷ []
  -- a whole sheet, a byte less, a byte more; then a head that is refused, whatever stands behind it
  pub whole_sheets : map (λ (s : List ℕ). whole_head (read_head s) s)
      (in_rows 96 ∷ in_rows 95 ∷ in_rows 97 ∷ in_tiles 96 ∷ in_tiles 95 ∷ in_tiles 97 ∷ (0x01 ∷ 0x05 ∷ []) ∷ (0x01 ∷ 0x00 ∷ 0x09 ∷ 0x60 ∷ []) ∷ [])
      ≡ head 5 9 3 ∷ no_head 10 ∷ no_head 10 ∷ tiled Srgb 5 9 4 ∷ no_head 10 ∷ no_head 10 ∷ no_head 7 ∷ no_head 9 ∷ []
  -- read by who takes form 1 alone
  pub whole_in_rows : map (λ (s : List ℕ). whole_refusal (read_of_form Rows s) s) (in_rows 96 ∷ in_rows 95 ∷ in_rows 97 ∷ in_tiles 96 ∷ in_tiles 95 ∷ [])
      ≡ 0 ∷ 10 ∷ 10 ∷ 8 ∷ 8 ∷ []

pub heads_hold : Heads
unfolding groups read_groups read_number raised read_head_up_to head_refusal_up_to form_in width_in height_in colour_in first size_refusal_up_to write_head_up_to
    head_bytes tiled_bytes padded form_taken size_taken colour_taken last_taken group_taken read_by blocks_of place_of colour_of colour_refusal form_of
    read_of_form_up_to of_form_refusal_up_to stored_at stored_in_tiles count slot_of slot_in in_sheet column_at column_of_slot row_at row_of_slot tiles whole_head
    whole_refusal read_of_form_with of_form_refusal_with
heads_hold = record {
  numbers_written = refl;
  numbers_read = refl;
  heads_read = refl;
  tiled_read = refl;
  forms_numbered = refl;
  tiled_spelt = refl;
  only_rows = refl;
  only_tiles = refl;
  before_nine = refl;
  nothing_before_nine = refl;
  heads_read_before = refl;
  heads_written = refl;
  colours_numbered = refl;
  colours_of_numbers = refl;
  colours_refused = refl;
  colours_said = refl;
  colours_forgotten = refl;
  a_state = refl;
  heads_by_bytes = refl;
  rounded_up = refl;
  most_across_is = refl;
  scanlines_shown = refl;
  blocks_placed = refl;
  blocks_in_rows = refl;
  blocks_in_tiles = refl;
  whole_sheets = refl;
  whole_in_rows = refl;
}

-- THE PROMISES: of each call an accepted answer, a refused one, and answers that it does not admit: the sides exchanged, tiles taken for rows,
-- another colour space, another start, another refusal, sides or bytes beside a refusal, a byte behind the head, another count
pub record Promised : Type 0 where
  pub reads_head : ReadsHead (0x01 ∷ 0x05 ∷ 0x06 ∷ 0x60 ∷ []) (told 5 6 3)
  pub reads_tiled : ReadsHead (0x02 ∷ 0x05 ∷ 0x06 ∷ 0x01 ∷ []) (told_tiled Linear 5 6 4)
  pub reads_largest : ReadsHead (0x01 ∷ 0x80 ∷ 0x80 ∷ 0x01 ∷ 0x80 ∷ 0x80 ∷ 0x01 ∷ []) (told 16384 16384 7)
  pub reads_head_not : ReadsHead (0x01 ∷ 0x00 ∷ 0x06 ∷ []) (Err BadSide)
  pub no_other_side : ReadsHead (0x01 ∷ 0x05 ∷ 0x06 ∷ 0x60 ∷ []) (told 6 5 3) → ⊥
  pub no_other_start : ReadsHead (0x01 ∷ 0x05 ∷ 0x06 ∷ 0x60 ∷ []) (told 5 6 4) → ⊥
  pub no_other_form : ReadsHead (0x02 ∷ 0x05 ∷ 0x06 ∷ 0x00 ∷ []) (told 5 6 4) → ⊥
  pub no_other_colours : ReadsHead (0x02 ∷ 0x05 ∷ 0x06 ∷ 0x01 ∷ []) (told_tiled Srgb 5 6 4) → ⊥
  pub no_other_refusal : ReadsHead (0x01 ∷ 0x00 ∷ 0x06 ∷ []) (Err BadNumber) → ⊥
  pub no_refused_sides : read_head (0x01 ∷ 0x00 ∷ 0x06 ∷ []) ≡ refused_beside 9 6 → ⊥
  pub writes_head : WritesHead 5 6 (wrote (0x01 ∷ 0x05 ∷ 0x06 ∷ 0 ∷ 0 ∷ 0 ∷ 0 ∷ []) 3)
  pub writes_largest : WritesHead 16384 16384 (wrote (0x01 ∷ 0x80 ∷ 0x80 ∷ 0x01 ∷ 0x80 ∷ 0x80 ∷ 0x01 ∷ []) 7)
  pub writes_head_not : WritesHead 0 6 (Err BadSide)
  pub no_other_bytes : WritesHead 5 6 (wrote (0x01 ∷ 0x06 ∷ 0x05 ∷ 0 ∷ 0 ∷ 0 ∷ 0 ∷ []) 3) → ⊥
  pub no_byte_behind : WritesHead 5 6 (wrote (0x01 ∷ 0x05 ∷ 0x06 ∷ 0 ∷ 0 ∷ 0 ∷ 9 ∷ []) 3) → ⊥
  pub no_other_count : WritesHead 5 6 (wrote (0x01 ∷ 0x05 ∷ 0x06 ∷ 0 ∷ 0 ∷ 0 ∷ 0 ∷ []) 7) → ⊥
  pub no_refused_head : WritesHead 5 6 (Err BadSide) → ⊥
  pub no_refused_bytes : write_head 0 6 ≡ written 9 (0x01 ∷ 0x00 ∷ 0x06 ∷ 0 ∷ 0 ∷ 0 ∷ 0 ∷ []) 0 → ⊥

pub promises_hold : Promised
unfolding groups read_groups read_number raised read_head_up_to head_refusal_up_to form_in width_in height_in colour_in first size_refusal_up_to write_head_up_to
    head_bytes padded colour_of colour_refusal form_of
promises_hold = record {
  reads_head = refl;
  reads_tiled = refl;
  reads_largest = refl;
  reads_head_not = refl;
  no_other_side = λ e. eqb_of _ _ (ap (λ (h : Head). h.width) e);
  no_other_start = λ e. eqb_of _ _ (ap (λ (h : Head). h.start) e);
  no_other_form = λ e. eqb_of _ _ (ap (λ (h : Head). form_number h.form) e);
  no_other_colours = λ e. eqb_of _ _ (ap (λ (h : Head). colour_number h.colour_space) e);
  no_other_refusal = λ e. eqb_of _ _ (ap (λ (h : Head). h.refusal) e);
  no_refused_sides = λ e. eqb_of _ _ (sym (ap (λ (h : Head). h.height) e));
  writes_head = refl;
  writes_largest = refl;
  writes_head_not = refl;
  no_other_bytes = λ e. eqb_of _ _ (ap (λ (b : HeadBytes). get_or b.bytes 1 0) e);
  no_byte_behind = λ e. eqb_of _ _ (ap (λ (b : HeadBytes). get_or b.bytes 6 0) e);
  no_other_count = λ e. eqb_of _ _ (ap (λ (b : HeadBytes). b.count) e);
  no_refused_head = λ e. eqb_of _ _ (ap (λ (b : HeadBytes). b.refusal) e);
  no_refused_bytes = λ e. eqb_of _ _ (sym (ap (λ (b : HeadBytes). get_or b.bytes 0 0) e));
}
