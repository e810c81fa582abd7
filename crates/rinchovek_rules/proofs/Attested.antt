-- WHAT HOLDS THE PROMISES TO C: of each call an accepted example and a refused one, through its promise. What stood before is nines.
-- Assumes nothing.
use mathlib.Core.Path.{refl}
use mathlib.Core.List.{List, [], ◌∷◌, ◌++◌}
use Prim.Native.Nat.{ℕ, ◌+◌, ◌*◌}
use lib.ListN.{replicate, set}
use Rattle.laws.specs.Padding.{padded}
use Rattle.laws.specs.Refusals.{first}
use Rattle.laws.specs.Tables.{implies, over, table, table_from}
use Rattle.bcn_format.specs.Block.{block_at, bytes_of, number, put_block, trailing}
use Rattle.bc7_format.specs.Modes.{mode_of, endpoint_count, kind_of_mode, mode_row}
use Rattle.bcn_format.specs.Drawing.{drawn, promoted, weight_of, weights}
use Rattle.bc7_format.specs.Lines.{anchor_of, draws, eight, index_set_of, has, index_place, laid, line_at, line_bits, line_of, means_shown, means_stored, own}
use Rattle.bc7_format.specs.Lines.{p_place, pixel, pixels, rotated, shown, turned, value_place, with_line}
use Rattle.bcn_format.specs.Partitions.{anchors2, anchors3, digits, marks, strings2, strings3, subset2, subset3}
use Rattle.bc7_format.specs.Places.{at_place, block_of, list_of, opened, place_at, pos, width, widths}
use Rattle.bc7_format.specs.Splits.{split_at, split_of}
use Rattle.bc7_format.proofs.Examples.{block4, block7}
use Rattle.record_rules.specs.Records.{fits, made, pack_refusal, packed, record_of, says, taken_apart}
use Rattle.record_rules.specs.Wire.{bytes_refusal, packed_bytes, record_byte, record_bytes, record_of_bytes, spelt}
use Rattle.record_rules.proofs.Attested.{bytes4, bytes7}
use Rattle.line_rules.specs.Read.{given_as, line_read, read_refusal, replacement_bytes, replacement_of, value_at, widths_of}
use Rattle.line_rules.specs.Replace.{after, index_fits, line_fits, line_given, oriented, own_width, p_fits, put, refusal, refusal_in, replaced, value_fits}
use Rattle.line_rules.proofs.Attested.{after7, bytes_given}
use Rattle.nearest_rules.specs.Nearest.{channel_distance, distance, drawn_with, exact_index, exact_refusal, in_line, index_count, least_at, nearest_index}
use Rattle.nearest_rules.specs.Nearest.{nearest_refusal, squared, with_index, zero_at}
use Rattle.opacity_rules.specs.Opacity.{is_visible, opaque, opaque_in, passes}
use Rattle.head_rules.specs.Colours.{colour_of, colour_refusal}
use Rattle.pixel_rules.specs.Pixels.{pixel_read, pixel_refusal}
use Rattle.laws.specs.Counting.{count, kept, sum}
use Rattle.tile_rules.specs.Tiles.{column_at, column_of_slot, in_sheet, number_in_slot, number_in_tiles, row_at, row_of_slot, slot_in, slot_of, slots}
use Rattle.tile_rules.specs.Tiles.{stored_in_tiles, stored_order, tiles}
use Rattle.head_rules.specs.Geometry.{blocks_of, place_of, stored_at}
use Rattle.head_rules.specs.Heads.{colour_in, form_in, form_of, head_bytes, head_refusal_up_to, height_in, of_form_refusal_up_to, read_head_up_to, read_of_form_up_to}
use Rattle.head_rules.specs.Heads.{size_refusal_up_to, tiled_bytes, width_in, write_head_up_to}
use Rattle.head_rules.specs.Heads.{of_form_refusal_with, read_of_form_with}
use Rattle.head_rules.specs.Numbers.{groups, raised, read_groups, read_number}
use Rattle.head_rules.specs.Whole.{whole_refusal}
use Rattle.sheet_rules.specs.Rows.{channel, row_byte, row_bytes, row_out_up_to, row_refusal_up_to}
use Rattle.sheet_rules.specs.Blocks.{block_read}
use Rattle.sheet_rules.specs.Pictures.{blocks_as, byte_as, row_of}
use Rattle.sheet_rules.specs.SheetRows.{row_blocks, sheet_row_out, sheet_row_refusal}
use Rattle.sheet_rules.specs.Sheets.{block_by, find_refusal, replaced_in, sheet_after, sheet_refusal}
use Rattle.sheet_rules.proofs.Attested.{lower, lower_scanlines, small, small_replaced}
use Rattle.rinchovek_rules.specs.Promises.{Decodes, Gives, Packs, ReadsLine, Replaces, Unpacks, Versions, DecodesRow, ReadsHead, ReplacesIn}
use Rattle.rinchovek_rules.specs.Promises.{FindsExact, FindsNearest, ReadsPixel, TellsOpaque, WritesHead}
use Rattle.laws.specs.Digits.{evenly}
use Rattle.dds_rules.specs.Header.{canonical_header, entries, format_says, header_number, is_texture, number_at}
use Rattle.dds_rules.specs.Files.{export_after, export_length, export_refusal, file_made, file_refusal_up_to, head_made, import_after_up_to, import_length}
use Rattle.dds_rules.specs.Files.{import_refusal_up_to, numbered_after, numbered_refusal, sheet_made}
use Rattle.dds_rules.proofs.Attested.{file53, header53, sheet53}
use Rattle.move_rules.specs.Moving.{move_after, move_refusal, moved_to}
use Rattle.move_rules.specs.Stating.{state_after, state_refusal, stated_as}
use Rattle.count_rules.specs.Counts.{counted_of, counts_below, has_mode, is_opaque}
use Rattle.count_rules.specs.Keeping.{false_of, kept_counts, kept_refusal, kept_sheet, of_all_modes, recounted_as}
use Rattle.rinchovek_rules.specs.Promises.{CountsSheet, ReplacesBlockCounted, ReplacesLineCounted}
use Rattle.rinchovek_rules.specs.Promises.{MovesToRows, MovesToTiles, OpensSheet, ReadsBlock, ShowsRow, StatesColour}
use Rattle.rinchovek_rules.specs.Promises.{ExportNeeds, ExportsColour, ExportsDds, ImportNeeds, ImportsColour, ImportsDds, ReadsColourHead}

abbrev zeros : ℕ → List ℕ
zeros n = replicate n 0

abbrev nines : ℕ → List ℕ
nines n = replicate n 9

abbrev rgba : ℕ → ℕ → ℕ → ℕ → List ℕ
rgba r g b a = r ∷ g ∷ b ∷ a ∷ []

-- the upper half of block4, and the lower, for its indexes come again after eight
abbrev half4 : List (List ℕ)
half4 =
    rgba 11 29 44 28 ∷ rgba 13 31 46 29 ∷ rgba 14 32 47 30 ∷ rgba 15 28 48 32 ∷
    rgba 16 29 49 33 ∷ rgba 8 31 41 24 ∷ rgba 9 32 42 25 ∷ rgba 10 28 43 27 ∷
    []

-- line 1 of block7 as it stands, and how many bits each of its parts has
abbrev line7 : List ℕ
line7 = 9 ∷ 10 ∷ 11 ∷ 12 ∷ 13 ∷ 14 ∷ 15 ∷ 16 ∷ 1 ∷ 1 ∷ (zeros 8 ++ (0 ∷ 3 ∷ 2 ∷ 1 ∷ 0 ∷ 3 ∷ 2 ∷ 1 ∷ []))

abbrev widths7 : List ℕ
widths7 = replicate 8 5 ++ (1 ∷ 1 ∷ zeros 8) ++ replicate 8 2

-- the line that block 2 of the small sheet is given, as bytes
abbrev bytes_given6 : List ℕ
bytes_given6 = 1 ∷ 2 ∷ 3 ∷ 4 ∷ 5 ∷ 6 ∷ 7 ∷ 8 ∷ 1 ∷ 0 ∷ 8 ∷ replicate 15 1

-- six blocks of sixteen bytes alike, three columns and two rows, in both forms: form 2 stores 0 1 3 4 2 5
abbrev six : ℕ → ℕ → ℕ → ℕ → ℕ → ℕ → List ℕ
six a b c d e f = replicate 16 a ++ replicate 16 b ++ replicate 16 c ++ replicate 16 d ++ replicate 16 e ++ replicate 16 f

abbrev in_rows : List ℕ
in_rows = 0x01 ∷ 0x0C ∷ 0x08 ∷ six 10 11 12 13 14 15

abbrev in_tiles : ℕ → List ℕ
in_tiles space = 0x02 ∷ 0x0C ∷ 0x08 ∷ space ∷ six 10 11 13 14 12 15

-- form 2 of 12 by 29 pixels, linear
abbrev head2 : List ℕ
head2 = 0x02 ∷ 0x0C ∷ 0x1D ∷ 0x01 ∷ []

-- the shortest of the sheets that are refused for colour space 128, with the longest sides: 9 bytes
abbrev wide2 : List ℕ
wide2 = 0x02 ∷ 0x80 ∷ 0x80 ∷ 0x01 ∷ 0x80 ∷ 0x80 ∷ 0x01 ∷ 0x80 ∷ []

-- mode 6: all pixels have alpha 255 but pixel 6, in column 2 and row 1, which has 0
abbrev graded6 : List ℕ
graded6 = 0x40 ∷ (zeros 5 ++ (0xFE ∷ 0x80 ∷ 0x00 ∷ 0x00 ∷ 0x00 ∷ 0x0F ∷ zeros 4))

-- a sheet of 6 by 4 pixels in form 2: a reserved block, and one of which the left two columns are shown; and its counts, of which so many are opaque
abbrev edge : List ℕ → List ℕ
edge right = (0x02 ∷ 0x06 ∷ 0x04 ∷ 0x00 ∷ zeros 16) ++ right

abbrev of_edge : ℕ → List ℕ
of_edge o = 0 ∷ 0 ∷ 0 ∷ 0 ∷ 0 ∷ 0 ∷ 1 ∷ 0 ∷ 1 ∷ o ∷ []

-- mode 6 with nothing but the alphas 127 and 0 and no p bit: 254 and less
abbrev clear6 : List ℕ
clear6 = 0x40 ∷ (zeros 5 ++ (0xFE ∷ 0x00 ∷ zeros 8))

abbrev clear_given : List ℕ
clear_given = 0 ∷ 0 ∷ 0 ∷ 127 ∷ zeros 22

-- the file of the small DDS example in sRGB
abbrev srgb53 : List ℕ
srgb53 = set file53 128 99

-- both sides of each clause compute to the same
pub computed : {A : Type 0} {refusal : ℕ} {left : A} → Gives refusal left refusal left
computed = record { answers = refl; leaves = refl }

pub record Calls : Type 0 where
  pub version : Versions (10000 * 1 + 100 * 11 + 0)
  pub decodes : Decodes block4 (half4 ++ half4)
  pub decodes_reserved : Decodes (zeros 16) (replicate 16 (rgba 0 0 0 0))
  pub unpacks : Unpacks block4 (nines 66) 0 (bytes4 3)
  pub unpacks_not : Unpacks (zeros 16) (nines 66) 1 (nines 66)
  pub packs : Packs bytes7 (nines 16) 0 block7
  pub packs_not : Packs (bytes4 4) (nines 16) 5 (nines 16)
  pub reads_line : ReadsLine block7 1 (nines 26, nines 26) 0 (line7, widths7)
  pub reads_line_not : ReadsLine block7 2 (nines 26, nines 26) 2 (nines 26, nines 26)
  pub replaces : Replaces block7 1 bytes_given 0 after7
  pub replaces_not : Replaces block7 2 bytes_given 2 block7
  pub finds_nearest : FindsNearest block7 1 8 (rgba 77 85 93 130) 9 0 1
  pub finds_nearest_not : FindsNearest block7 1 7 (rgba 77 85 93 130) 9 13 9
  pub finds_exact : FindsExact block7 1 8 (rgba 88 96 104 112) 9 0 1
  pub finds_exact_not : FindsExact block7 1 8 (rgba 77 85 93 130) 9 14 9
  pub tells_opaque : TellsOpaque graded6 2 4 1
  pub tells_opaque_not : TellsOpaque graded6 4 2 0
  pub reads_pixel : ReadsPixel block4 1 (nines 4) 0 (rgba 13 31 46 29)
  pub reads_pixel_not : ReadsPixel block4 16 (nines 4) 21 (nines 4)
  pub opens : OpensSheet head2 (nines 8) 0 (12 ∷ 29 ∷ 4 ∷ 1 ∷ 2 ∷ 3 ∷ 8 ∷ 24 ∷ [])
  pub opens_rows : OpensSheet small (nines 8) 0 (5 ∷ 6 ∷ 3 ∷ 0 ∷ 1 ∷ 2 ∷ 2 ∷ 4 ∷ [])
  pub opens_not : OpensSheet (0x03 ∷ []) (nines 8) 8 (nines 8)
  pub opens_not_18 : OpensSheet (wide2 ++ (0x01 ∷ [])) (nines 8) 18 (nines 8)
  pub opens_not_cut : OpensSheet wide2 (nines 8) 7 (nines 8)
  pub reads_head : ReadsHead small (nines 3) 0 (5 ∷ 6 ∷ 3 ∷ [])
  pub reads_head_not : ReadsHead (0x02 ∷ []) (nines 3) 8 (nines 3)
  pub reads_head_not_tiles : ReadsHead head2 (nines 3) 8 (nines 3)
  pub reads_colour_head : ReadsColourHead small (nines 4) 0 (5 ∷ 6 ∷ 3 ∷ 0 ∷ [])
  pub reads_colour_head_not : ReadsColourHead (0x02 ∷ []) (nines 4) 8 (nines 4)
  pub reads_colour_head_not_tiles : ReadsColourHead head2 (nines 4) 8 (nines 4)
  pub writes_head : WritesHead 5 6 (nines 7, 9) 0 (0x01 ∷ 0x05 ∷ 0x06 ∷ zeros 4, 3)
  pub writes_head_long : WritesHead 5 200 (nines 7, 9) 0 (0x01 ∷ 0x05 ∷ 0xC8 ∷ 0x01 ∷ zeros 3, 4)
  pub writes_head_not : WritesHead 5 16385 (nines 7, 9) 9 (nines 7, 9)
  pub decodes_row : DecodesRow 5 6 1 lower (nines 40) 0 lower_scanlines
  pub decodes_row_not : DecodesRow 5 6 1 lower (nines 41) 11 (nines 41)
  pub shows_row : ShowsRow small 1 (nines 40) 0 lower_scanlines
  pub shows_row_not : ShowsRow small 2 (nines 40) 12 (nines 40)
  pub reads_block : ReadsBlock (in_tiles 1) 2 (nines 16) 0 (replicate 16 12)
  pub reads_block_rows : ReadsBlock in_rows 3 (nines 16) 0 (replicate 16 13)
  pub reads_block_not : ReadsBlock (in_tiles 1) 6 (nines 16) 12 (nines 16)
  pub moves_to_tiles : MovesToTiles in_rows (nines 100) 0 (in_tiles 0)
  pub moves_to_tiles_not : MovesToTiles (in_tiles 0) (nines 99) 8 (nines 99)
  pub moves_to_rows : MovesToRows (in_tiles 0) (nines 99) 0 in_rows
  pub moves_to_rows_not : MovesToRows in_rows (nines 100) 8 (nines 100)
  pub moves_to_rows_not_16 : MovesToRows (in_tiles 2) (nines 99) 16 (nines 99)
  pub states_colour : StatesColour (in_tiles 0) 2 0 (in_tiles 2)
  pub states_colour_not : StatesColour (in_tiles 1) 3 18 (in_tiles 1)
  pub states_colour_not_rows : StatesColour in_rows 2 8 in_rows
  pub replaces_in : ReplacesIn small 2 0 bytes_given6 0 small_replaced
  pub replaces_in_not : ReplacesIn small 0 2 bytes_given6 2 small
  pub counts_sheet : CountsSheet (edge graded6) (nines 10) 0 (0 ∷ 0 ∷ 0 ∷ 0 ∷ 0 ∷ 0 ∷ 1 ∷ 0 ∷ 1 ∷ 1 ∷ [])
  pub counts_sheet_not : CountsSheet (edge graded6 ++ (0x00 ∷ [])) (nines 10) 10 (nines 10)
  pub replaces_line_counted : ReplacesLineCounted (edge graded6, of_edge 1) 1 0 clear_given 0 (edge clear6, of_edge 0)
  pub replaces_line_counted_not : ReplacesLineCounted (edge graded6, of_edge 1) 0 1 clear_given 1 (edge graded6, of_edge 1)
  pub replaces_line_counted_not_19 : ReplacesLineCounted (edge graded6, of_edge 0) 1 0 clear_given 19 (edge graded6, of_edge 0)
  pub replaces_block_counted : ReplacesBlockCounted (edge clear6, of_edge 0) 1 graded6 0 (edge graded6, of_edge 1)
  pub replaces_block_counted_not : ReplacesBlockCounted (edge clear6, of_edge 0) 2 graded6 12 (edge clear6, of_edge 0)
  pub imports_dds : ImportsDds file53 (nines 35) 0 sheet53
  pub imports_dds_not : ImportsDds header53 (nines 35) 10 (nines 35)
  pub exports_dds : ExportsDds sheet53 (nines 180) 0 file53
  pub exports_dds_not : ExportsDds sheet53 (nines 35) 11 (nines 35)
  pub imports_linear : ImportsColour file53 (nines 35, nines 4) 0 (sheet53, 5 ∷ 3 ∷ 3 ∷ 1 ∷ [])
  pub imports_srgb : ImportsColour srgb53 (nines 35, nines 4) 0 (sheet53, 5 ∷ 3 ∷ 3 ∷ 2 ∷ [])
  pub imports_colour_not : ImportsColour srgb53 (nines 34, nines 4) 11 (nines 34, nines 4)
  pub exports_unspecified : ExportsColour sheet53 0 (nines 180) 0 file53
  pub exports_srgb : ExportsColour sheet53 2 (nines 180) 0 srgb53
  pub exports_colour_not : ExportsColour sheet53 3 (nines 35) 18 (nines 35)
  pub exports_colour_not_9 : ExportsColour (0x01 ∷ 0x00 ∷ 0x03 ∷ []) 3 (nines 35) 18 (nines 35)
  pub exports_colour_not_8 : ExportsColour file53 3 (nines 35) 8 (nines 35)
  pub import_needs : ImportNeeds file53 9 0 35
  pub import_needs_not : ImportNeeds sheet53 9 15 9
  pub export_needs : ExportNeeds sheet53 9 0 180
  pub export_needs_not : ExportNeeds file53 9 8 9

pub calls_hold : Calls
unfolding padded first over table table_from weights weight_of drawn promoted eight mode_row kind_of_mode endpoint_count place_at pos
    width widths trailing number mode_of split_at split_of at_place opened has value_place p_place index_set_of index_place own line_of
    line_bits means_stored rotated line_at shown pixel pixels digits marks strings2 strings3 subset2 subset3 anchors2 anchors3 taken_apart
    record_of made packed pack_refusal fits says block_of list_of bytes_of replaced after refusal refusal_in line_fits value_fits p_fits
    index_fits own_width line_given put oriented with_line laid turned anchor_of line_read read_refusal given_as widths_of value_at
    record_byte record_bytes record_of_bytes replacement_of replacement_bytes packed_bytes bytes_refusal spelt read_head_up_to head_refusal_up_to
    colour_in form_of read_of_form_up_to of_form_refusal_up_to stored_at form_in
    width_in height_in read_number read_groups raised size_refusal_up_to write_head_up_to head_bytes groups block_at channel row_byte row_bytes row_out_up_to
    row_refusal_up_to block_by blocks_of find_refusal whole_refusal place_of put_block replaced_in sheet_after sheet_refusal draws means_shown channel_distance
    distance drawn_with exact_index exact_refusal in_line index_count least_at nearest_index nearest_refusal squared with_index zero_at
    implies is_visible passes opaque pixel_refusal pixel_read
    evenly number_at entries header_number canonical_header is_texture head_made sheet_made file_refusal_up_to import_refusal_up_to import_after_up_to
    export_refusal file_made export_after import_length export_length format_says numbered_refusal numbered_after colour_of colour_refusal
    read_of_form_with of_form_refusal_with
    count kept column_at column_of_slot in_sheet number_in_slot number_in_tiles row_at row_of_slot slot_in slot_of slots stored_in_tiles stored_order
    tiles tiled_bytes block_read blocks_as byte_as row_of row_blocks sheet_row_out sheet_row_refusal move_after move_refusal moved_to
    state_after state_refusal stated_as
    sum opaque_in counted_of counts_below has_mode is_opaque false_of kept_counts kept_refusal kept_sheet of_all_modes recounted_as
calls_hold = record {
  version = refl;
  decodes = refl;
  decodes_reserved = refl;
  unpacks = computed;
  unpacks_not = computed;
  packs = computed;
  packs_not = computed;
  reads_line = computed;
  reads_line_not = computed;
  replaces = computed;
  replaces_not = computed;
  finds_nearest = computed;
  finds_nearest_not = computed;
  finds_exact = computed;
  finds_exact_not = computed;
  tells_opaque = refl;
  tells_opaque_not = refl;
  reads_pixel = computed;
  reads_pixel_not = computed;
  opens = computed;
  opens_rows = computed;
  opens_not = computed;
  opens_not_18 = computed;
  opens_not_cut = computed;
  reads_head = computed;
  reads_head_not = computed;
  reads_head_not_tiles = computed;
  reads_colour_head = computed;
  reads_colour_head_not = computed;
  reads_colour_head_not_tiles = computed;
  writes_head = computed;
  writes_head_long = computed;
  writes_head_not = computed;
  decodes_row = computed;
  decodes_row_not = computed;
  shows_row = computed;
  shows_row_not = computed;
  reads_block = computed;
  reads_block_rows = computed;
  reads_block_not = computed;
  moves_to_tiles = computed;
  moves_to_tiles_not = computed;
  moves_to_rows = computed;
  moves_to_rows_not = computed;
  moves_to_rows_not_16 = computed;
  states_colour = computed;
  states_colour_not = computed;
  states_colour_not_rows = computed;
  replaces_in = computed;
  replaces_in_not = computed;
  counts_sheet = computed;
  counts_sheet_not = computed;
  replaces_line_counted = computed;
  replaces_line_counted_not = computed;
  replaces_line_counted_not_19 = computed;
  replaces_block_counted = computed;
  replaces_block_counted_not = computed;
  imports_dds = computed;
  imports_dds_not = computed;
  exports_dds = computed;
  exports_dds_not = computed;
  imports_linear = computed;
  imports_srgb = computed;
  imports_colour_not = computed;
  exports_unspecified = computed;
  exports_srgb = computed;
  exports_colour_not = computed;
  exports_colour_not_9 = computed;
  exports_colour_not_8 = computed;
  import_needs = computed;
  import_needs_not = computed;
  export_needs = computed;
  export_needs_not = computed;
}
