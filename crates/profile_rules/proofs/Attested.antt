-- WHAT HOLDS THE DEFINITIONS OF THE PROFILE: the bytes that an admitted block starts with, sheets on each side of every test, and what the small
-- decoder shows, written out from document 02.
-- Assumes nothing.
use mathlib.Core.Path.{◌≡◌, refl}
use mathlib.Core.List.{List, [], ◌∷◌, ◌++◌, map}
use Prim.Native.Nat.{ℕ}
use lib.ListN.{length, replicate, take}
use Rattle.profile_rules.specs.Profile.{Checked}
use Rattle.laws.specs.Counting.{count, kept}
use Rattle.laws.specs.Refusals.{first}
use Rattle.laws.specs.Tables.{table, table_from}
use Rattle.bcn_format.specs.Block.{block_at, number, trailing}
use Rattle.bcn_format.specs.Drawing.{drawn, promoted, weight_of, weights}
use Rattle.bcn_format.specs.Partitions.{anchors2, anchors3, digits, marks, strings2, strings3, subset2, subset3}
use Rattle.bc7_format.specs.Modes.{mode_of, endpoint_count, kind_of_mode, mode_row}
use Rattle.bc7_format.specs.Lines.{eight, index_set_of, has, index_place, line_at, line_bits, line_of, means_stored, own, p_place, pixel, pixels, rotated}
use Rattle.bc7_format.specs.Lines.{shown, value_place}
use Rattle.bc7_format.specs.Places.{at_place, opened, place_at, pos, width, widths}
use Rattle.bc7_format.specs.Splits.{split_at, split_of}
use Rattle.tile_rules.specs.Tiles.{column_at, column_of_slot, in_sheet, number_in_slot, number_in_tiles, row_at, row_of_slot, slot_in, slot_of, slots}
use Rattle.tile_rules.specs.Tiles.{stored_in_tiles, stored_order, tiles}
use Rattle.head_rules.specs.Colours.{colour_of, colour_refusal}
use Rattle.head_rules.specs.Geometry.{blocks_of, number_at, place_of, stored_at}
use Rattle.head_rules.specs.Heads.{colour_in, form_in, form_of, head_refusal_up_to, height_in, read_head, read_head_up_to, size_refusal_up_to, width_in}
use Rattle.head_rules.specs.Numbers.{raised, read_groups, read_number}
use Rattle.head_rules.specs.Whole.{whole_refusal}
use Rattle.sheet_rules.specs.Pictures.{blocks_as, byte_as, row_of}
use Rattle.sheet_rules.specs.Rows.{channel, row_byte, row_bytes}
use Rattle.sheet_rules.specs.SheetRows.{row_blocks}
use Rattle.sheet_rules.specs.Sheets.{block_by}
use Rattle.profile_rules.specs.Profile.{admits, breaks, check_refusal, checked, first_breaking, lowest, sides_refusal}
use Rattle.profile_rules.specs.Small.{row_admits, small_pixels, small_refusal, small_row_out, small_row_refusal}

-- a block by its first byte, which ends in as many zero bits as the mode says
abbrev starting : ℕ → List ℕ
starting byte = byte ∷ replicate 15 0xFF

abbrev four : List ℕ
four = starting 0x10

abbrev five : List ℕ
five = starting 0x60

abbrev six : List ℕ
six = starting 0xC0

abbrev seven : List ℕ
seven = starting 0x80

abbrev reserved : List ℕ
reserved = starting 0x00

-- 8 by 8 in form 1; 12 by 8 in form 2, whose order is 0 1 3 4 2 5, in the order that they are stored in; a head and a block alone
abbrev square : List ℕ → List ℕ → List ℕ → List ℕ → List ℕ
square a b c d = (0x01 ∷ 0x08 ∷ 0x08 ∷ []) ++ a ++ b ++ c ++ d

abbrev tiled : ℕ → List ℕ → List ℕ → List ℕ → List ℕ
tiled space one three two = (0x02 ∷ 0x0C ∷ 0x08 ∷ space ∷ []) ++ four ++ one ++ three ++ five ++ two ++ six

abbrev sized : ℕ → ℕ → ℕ → List ℕ → List ℕ
sized w h space blocks = (0x02 ∷ w ∷ h ∷ space ∷ []) ++ blocks

-- a sheet, the number that is answered, and the block's beside it
pub record Claim : Type 0 where
  pub sheet : List ℕ
  pub answer : Checked

abbrev says : List ℕ → ℕ → ℕ → Claim
says s r b = record { sheet = s; answer = record { refusal = r; block = b } }

abbrev pub claims : List Claim
claims =
    says (square four five six four) 0 0 ∷
    says (square four five six (starting 0x08)) 20 3 ∷
    says (square four seven (starting 0x01) five) 20 1 ∷
    says (square reserved five six seven) 20 0 ∷
    -- form 2: block 3 is stored before block 2, and both break it; a stated colour space doesn't
    says (tiled 0 six seven reserved) 20 2 ∷
    says (tiled 0 six seven five) 20 3 ∷
    says (tiled 0 reserved seven five) 20 1 ∷
    says (tiled 2 six four five) 0 0 ∷
    -- each is refused for what the next ones are refused for too
    says [] 7 0 ∷
    says (0x03 ∷ 0x00 ∷ 0x06 ∷ 0x03 ∷ seven) 8 0 ∷
    says (sized 0 6 3 seven) 18 0 ∷
    says (sized 0 6 2 seven) 9 0 ∷
    says (sized 6 6 2 seven) 10 0 ∷
    says (sized 3 4 2 seven) 17 0 ∷
    says (sized 4 4 2 seven) 20 0 ∷
    -- either side, and a size that is even; block 1 breaks it or none does; a byte too many, or too few
    says (sized 6 4 0 (four ++ seven)) 17 0 ∷
    says (sized 4 6 0 (four ++ seven)) 17 0 ∷
    says (sized 8 4 0 (four ++ seven)) 20 1 ∷
    says (sized 4 8 0 (four ++ seven)) 20 1 ∷
    says (sized 4 1 0 four) 17 0 ∷
    says (sized 4 4 0 (six ++ (0 ∷ []))) 10 0 ∷
    says (sized 4 4 0 (take 15 six)) 10 0 ∷
    []

-- mode 6: red from 0 to 120, green 10, blue 7, alpha 127; p 0 and 0; pixel q has index q. What it shows is twice what is stored
abbrev shade : List ℕ
shade = 0x40 ∷ 0x00 ∷ 0x5E ∷ 0xA1 ∷ 0x38 ∷ 0x1C ∷ 0xFE ∷ 0x7F ∷ 0x10 ∷ 0x32 ∷ 0x54 ∷ 0x76 ∷ 0x98 ∷ 0xBA ∷ 0xDC ∷ 0xFE ∷ []

abbrev shades : List (List ℕ)
shades = map (λ (red : ℕ). red ∷ 20 ∷ 14 ∷ 254 ∷ [])
    (0 ∷ 15 ∷ 34 ∷ 49 ∷ 64 ∷ 79 ∷ 98 ∷ 113 ∷ 128 ∷ 143 ∷ 161 ∷ 176 ∷ 191 ∷ 206 ∷ 225 ∷ 240 ∷ [])

abbrev scanlines : List ℕ
scanlines = together shades
  where
    together : List (List ℕ) → List ℕ
    together [] = []
    together (p ∷ ps) = p ++ together ps

-- a row of a whole sheet by the small decoder: what is given, the number that is answered, and the output afterwards
pub record Row : Type 0 where
  pub sheet : List ℕ
  pub row : ℕ
  pub out : List ℕ
  pub answer : ℕ
  pub left : List ℕ

abbrev nines : ℕ → List ℕ
nines n = replicate n 9

abbrev draw : List ℕ → ℕ → ℕ → Row
draw s n room = record { sheet = s; row = n; out = nines room; answer = 0; left = scanlines }

abbrev draw_not : List ℕ → ℕ → ℕ → ℕ → Row
draw_not s n room r = record { sheet = s; row = n; out = nines room; answer = r; left = nines room }

-- a sheet of one column, whose second block breaks the profile: the first row is shown, the second refused, and its output as it was
abbrev mixed : ℕ → ℕ → List ℕ
mixed w h = sized w h 1 (shade ++ seven)

abbrev pub row_claims : List Row
row_claims =
    draw (mixed 4 8) 0 64 ∷
    draw (sized 4 4 0 shade) 0 64 ∷
    draw_not (mixed 4 8) 1 64 20 ∷
    draw_not (mixed 8 4) 0 128 20 ∷
    draw_not [] 9 65 7 ∷
    draw_not (sized 0 6 3 seven) 9 65 18 ∷
    draw_not (mixed 4 8 ++ (0 ∷ [])) 2 65 10 ∷
    draw_not (mixed 4 6) 2 65 17 ∷
    draw_not (mixed 3 8) 2 65 17 ∷
    draw_not (mixed 4 8) 2 65 12 ∷
    draw_not (mixed 4 8) 1 65 11 ∷
    []

pub record Profiles : Type 0 where
  -- of all first bytes these: 16 in the last five bits for mode 4, 32 in six for 5, 64 in seven for 6
  pub first_bytes : kept 256 (λ (b : ℕ). admits (starting b))
      ≡ 0x10 ∷ 0x20 ∷ 0x30 ∷ 0x40 ∷ 0x50 ∷ 0x60 ∷ 0x70 ∷ 0x90 ∷ 0xA0 ∷ 0xB0 ∷ 0xC0 ∷ 0xD0 ∷ 0xE0 ∷ 0xF0 ∷ []
  pub answers : map (λ c. checked (read_head c.sheet) c.sheet) claims ≡ map (λ c. c.answer) claims
  pub small_answers : map small_refusal (shade ∷ four ∷ five ∷ seven ∷ starting 0x08 ∷ reserved ∷ []) ≡ 0 ∷ 0 ∷ 0 ∷ 20 ∷ 20 ∷ 20 ∷ []
  pub small_pixels_is : map small_pixels (shade ∷ seven ∷ starting 0x08 ∷ reserved ∷ [])
      ≡ shades ∷ replicate 3 (replicate 16 (0 ∷ 0 ∷ 0 ∷ 0 ∷ []))
  pub row_answers : map (λ c. small_row_refusal (read_head c.sheet) c.sheet c.row (length c.out)) row_claims
      ≡ map (λ c. c.answer) row_claims
  pub rows : map (λ c. small_row_out c.sheet c.row c.out) row_claims ≡ map (λ c. c.left) row_claims

pub profiles_hold : Profiles
unfolding table table_from first trailing number mode_of admits breaks lowest first_breaking whole_refusal sides_refusal check_refusal checked small_refusal
    small_pixels row_admits small_row_refusal small_row_out read_head_up_to head_refusal_up_to form_in width_in height_in colour_in form_of colour_of colour_refusal
    read_number read_groups raised size_refusal_up_to blocks_of place_of stored_at number_at stored_in_tiles count slot_of slot_in in_sheet column_at column_of_slot
    row_at row_of_slot tiles number_in_tiles stored_order kept number_in_slot slots block_by block_at blocks_as byte_as row_of row_blocks row_bytes row_byte channel
    digits marks strings2 strings3 subset2 subset3 anchors2 anchors3 weights weight_of drawn promoted eight mode_row kind_of_mode endpoint_count place_at
    pos width widths split_at split_of at_place opened has value_place p_place index_set_of index_place own line_of line_bits means_stored rotated line_at shown
    pixel pixels
profiles_hold = record {
  first_bytes = refl;
  answers = refl;
  small_answers = refl;
  small_pixels_is = refl;
  row_answers = refl;
  rows = refl;
}
