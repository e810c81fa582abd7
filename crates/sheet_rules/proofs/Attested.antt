-- WHAT HOLDS THE DEFINITIONS OF SHEETS: a picture of 5 by 6 pixels, no two alike, written out; calls on its rows and its blocks.
-- Assumes nothing.
use mathlib.Core.Path.{◌≡◌, refl, ap, sym}
use Rattle.std.specs.Prelude.{Ok, Err}
use Rattle.refusals.specs.declared.Refusal.TheVariants.{BeyondSheet, WrongBlockBytes}
use mathlib.Core.List.{List, [], ◌∷◌, ◌++◌, map}
use Prim.Native.Nat.{ℕ}
use lib.ListN.{drop, get_or, length, replicate, set, take}
use Rattle.line_rules.specs.declared.Replacement.{Replacement}
use Rattle.laws.specs.Refusals.{first}
use Rattle.laws.specs.Tables.{over, table, table_from}
use Rattle.bcn_format.specs.Block.{block_at, bytes_of, number, put_block, trailing}
use Rattle.laws.proofs.Tests.{eqb_of}
use Rattle.bc7_format.specs.Modes.{mode_of, endpoint_count, kind_of_mode, mode_row}
use Rattle.bcn_format.specs.Drawing.{drawn, promoted, weight_of, weights}
use Rattle.bc7_format.specs.Lines.{eight, anchor_of, index_set_of, has, index_place, laid, line_at, line_bits, line_of, means_stored, own, p_place, pixel}
use Rattle.bc7_format.specs.Lines.{pixels, rotated, shown, turned, value_place, with_line}
use Rattle.bc7_format.specs.Places.{at_place, block_of, list_of, opened, place_at, pos, width, widths}
use Rattle.bc7_format.specs.Splits.{split_at, split_of}
use Rattle.laws.specs.Counting.{count}
use Rattle.tile_rules.specs.Tiles.{column_at, column_of_slot, in_sheet, slot_in, stored_in_tiles, row_at, row_of_slot, slot_of, tiles}
use Rattle.head_rules.specs.Colours.{colour_of, colour_refusal}
use Rattle.head_rules.specs.Geometry.{across, blocks_of, place_of, side_shown, stored_at}
use Rattle.head_rules.specs.Heads.{colour_in, form_in, form_of, head_of, head_refusal_up_to, height_in, of_form_refusal_up_to, old_head, read_head, read_head_up_to}
use Rattle.head_rules.specs.Heads.{read_of_form_up_to, size_refusal_up_to, width_in}
use Rattle.head_rules.specs.Numbers.{raised, read_groups, read_number}
use Rattle.head_rules.specs.Whole.{whole_refusal}
use Rattle.line_rules.specs.Replace.{after, index_fits, line_fits, line_given, oriented, own_width, p_fits, put, refusal, refusal_in, replaced, value_fits}
use Rattle.sheet_rules.specs.Blocks.{BlockRead, ReadsBlock, block_read}
use Rattle.sheet_rules.specs.Pictures.{blocks_as, byte_as, picture, picture_byte, row_of}
use Rattle.sheet_rules.specs.SheetRows as whole
use Rattle.sheet_rules.specs.SheetRows.{DecodesSheetRow, sheet_row_out, sheet_row_refusal}
use Rattle.sheet_rules.specs.Rows.{DecodesRow, channel, row_byte, row_bytes, row_out, row_out_up_to, row_refusal, row_refusal_up_to}
use Rattle.sheet_rules.specs.Sheets.{ReplacesInSheet, block_in, block_by, find_refusal, replaced_in, sheet_after, sheet_refusal}

-- blocks of mode 6: red from 0 to 120, blue 7, alpha 127, and a green of 10, 20, 30 or 40; p 0 and 0; pixel q has index q
abbrev shade : ℕ → ℕ → ℕ → List ℕ
shade a b c = 0x40 ∷ 0x00 ∷ a ∷ b ∷ c ∷ 0x1C ∷ 0xFE ∷ 0x7F ∷ 0x10 ∷ 0x32 ∷ 0x54 ∷ 0x76 ∷ 0x98 ∷ 0xBA ∷ 0xDC ∷ 0xFE ∷ []

abbrev shade10 : List ℕ
shade10 = shade 0x5E 0xA1 0x38

abbrev shade20 : List ℕ
shade20 = shade 0x9E 0x42 0x39

abbrev shade30 : List ℕ
shade30 = shade 0xDE 0xE3 0x39

abbrev shade40 : List ℕ
shade40 = shade 0x1E 0x85 0x3A

-- the sheet: its head, a row of two blocks, and another, in which block 2 is given
abbrev pub lower : List ℕ
lower = shade30 ++ shade40

abbrev sheet : List ℕ → List ℕ
sheet block2 = (0x01 ∷ 0x05 ∷ 0x06 ∷ []) ++ shade10 ++ shade20 ++ block2 ++ shade40

abbrev pub small : List ℕ
small = sheet shade30

-- a pixel by its red and its green, which are twice what is stored; and a scanline of the picture: four pixels of the block on the left,
-- and of that on the right the first, which has the same red
abbrev px : ℕ → ℕ → List ℕ
px red green = red ∷ green ∷ 14 ∷ 254 ∷ []

abbrev scanline : ℕ → ℕ → ℕ → ℕ → ℕ → ℕ → List ℕ
scanline left right a b c d = px a left ++ px b left ++ px c left ++ px d left ++ px a right

abbrev upper_scanlines : List ℕ
upper_scanlines = scanline 20 40 0 15 34 49 ++ scanline 20 40 64 79 98 113 ++ scanline 20 40 128 143 161 176 ++ scanline 20 40 191 206 225 240

abbrev pub lower_scanlines : List ℕ
lower_scanlines = scanline 60 80 0 15 34 49 ++ scanline 60 80 64 79 98 113

-- a line for block 2, which is turned; and the block with it: 5 6 7 8, p 0 and 1 2 3 4, p 1, and the indexes 7 14 14 and so on
abbrev given : Replacement
given = record { endpoints = 1 ∷ 2 ∷ 3 ∷ 4 ∷ 5 ∷ 6 ∷ 7 ∷ 8 ∷ []; p = 1 ∷ 0 ∷ []; indexes = 8 ∷ replicate 15 1 }

abbrev replaced2 : List ℕ
replaced2 = 0xC0 ∷ 0x42 ∷ 0xC0 ∷ 0x20 ∷ 0x38 ∷ 0x0C ∷ 0x10 ∷ 0x04 ∷ 0xEF ∷ replicate 7 0xEE

abbrev pub small_replaced : List ℕ
small_replaced = sheet replaced2

-- a row decoded: what is given, the number that is answered, and the output afterwards
pub record Row : Type 0 where
  pub wide : ℕ
  pub high : ℕ
  pub row : ℕ
  pub blocks : List ℕ
  pub out : List ℕ
  pub answer : ℕ
  pub left : List ℕ

abbrev decode : ℕ → ℕ → ℕ → List ℕ → List ℕ → ℕ → List ℕ → Row
decode w h n bs out r left = record { wide = w; high = h; row = n; blocks = bs; out = out; answer = r; left = left }

abbrev nines : ℕ → List ℕ
nines n = replicate n 9

-- each call is refused for what the next ones are refused for too
abbrev pub row_claims : List Row
row_claims =
    decode 5 6 1 lower (nines 40) 0 lower_scanlines ∷
    decode 0 6 2 shade30 (nines 41) 9 (nines 41) ∷
    decode 5 6 2 shade30 (nines 41) 12 (nines 41) ∷
    decode 5 6 1 shade30 (nines 41) 10 (nines 41) ∷
    decode 5 6 1 (lower ++ (0 ∷ [])) (nines 40) 10 (nines 40) ∷
    decode 5 6 1 (take 31 lower) (nines 40) 10 (nines 40) ∷
    decode 5 6 1 lower (nines 41) 11 (nines 41) ∷
    []

-- a line replaced in a sheet: what is given, the number that is answered, and the sheet afterwards
pub record Replaced : Type 0 where
  pub before : List ℕ
  pub block : ℕ
  pub of_block : ℕ
  pub answer : ℕ
  pub left : List ℕ

abbrev replace : List ℕ → ℕ → ℕ → ℕ → List ℕ → Replaced
replace s b l r t = record { before = s; block = b; of_block = l; answer = r; left = t }

abbrev refuse : List ℕ → ℕ → ℕ → ℕ → Replaced
refuse s b l r = replace s b l r s

-- a sheet of form 2 with three columns and two rows of blocks, of which block 2 is given: 0 1 3 4 2 5 is the order
abbrev tiles3 : List ℕ → List ℕ
tiles3 block2 = (0x02 ∷ 0x0C ∷ 0x08 ∷ 0x01 ∷ []) ++ shade10 ++ shade20 ++ shade40 ++ shade10 ++ block2 ++ shade20

-- a byte too many
abbrev longer : List ℕ
longer = small ++ (0 ∷ [])

-- each call is refused for what the next ones are refused for too
abbrev pub sheet_claims : List Replaced
sheet_claims =
    replace small 2 0 0 small_replaced ∷
    refuse [] 4 1 7 ∷
    refuse (0x03 ∷ 0x00 ∷ drop 2 longer) 4 1 8 ∷
    refuse (0x01 ∷ 0x00 ∷ drop 2 longer) 4 1 9 ∷
    refuse longer 4 1 10 ∷
    refuse longer 2 0 10 ∷
    refuse (take 66 small) 2 0 10 ∷
    refuse small 4 1 12 ∷
    refuse small 2 1 2 ∷
    replace (tiles3 shade30) 2 0 0 (tiles3 replaced2) ∷
    refuse (0x02 ∷ 0x00 ∷ 0x08 ∷ 0x03 ∷ drop 3 longer) 9 1 18 ∷
    []

-- a block by its number: what is given, and what is answered
pub record Read : Type 0 where
  pub sheet : List ℕ
  pub block : ℕ
  pub answer : BlockRead

abbrev read : List ℕ → ℕ → List ℕ → Read
read s b bytes = record { sheet = s; block = b; answer = record { refusal = 0; block = bytes } }

abbrev read_not : List ℕ → ℕ → ℕ → Read
read_not s b r = record { sheet = s; block = b; answer = record { refusal = r; block = replicate 16 0 } }

-- each call is refused for what the next ones are refused for too
abbrev pub block_claims : List Read
block_claims =
    read small 2 shade30 ∷
    read (tiles3 shade30) 2 shade30 ∷
    read_not [] 6 7 ∷
    read_not (0x03 ∷ 0x00 ∷ 0x08 ∷ 0x03 ∷ drop 3 longer) 6 8 ∷
    read_not (0x02 ∷ 0x00 ∷ 0x08 ∷ 0x03 ∷ drop 3 longer) 6 18 ∷
    read_not (0x02 ∷ 0x00 ∷ 0x08 ∷ 0x02 ∷ drop 3 longer) 6 9 ∷
    read_not longer 4 10 ∷
    read_not small 4 12 ∷
    read_not (tiles3 shade30) 6 12 ∷
    []

-- a row of a whole sheet: what is given, the number that is answered, and the output afterwards
pub record SheetRow : Type 0 where
  pub sheet : List ℕ
  pub row : ℕ
  pub out : List ℕ
  pub answer : ℕ
  pub left : List ℕ

abbrev draw : List ℕ → ℕ → ℕ → ℕ → List ℕ → SheetRow
draw s n room r left = record { sheet = s; row = n; out = nines room; answer = r; left = left }

abbrev draw_not : List ℕ → ℕ → ℕ → ℕ → SheetRow
draw_not s n room r = draw s n room r (nines room)

-- the blocks 3, 4, 5 of the sheet of form 2, which it stores third, fourth and sixth
abbrev wide_scanline : ℕ → ℕ → ℕ → ℕ → List ℕ
wide_scanline a b c d =
    (px a 80 ++ px b 80 ++ px c 80 ++ px d 80) ++ (px a 20 ++ px b 20 ++ px c 20 ++ px d 20) ++ (px a 40 ++ px b 40 ++ px c 40 ++ px d 40)

abbrev lower_tiles : List ℕ
lower_tiles = wide_scanline 0 15 34 49 ++ wide_scanline 64 79 98 113 ++ wide_scanline 128 143 161 176 ++ wide_scanline 191 206 225 240

abbrev pub sheet_row_claims : List SheetRow
sheet_row_claims =
    draw small 1 40 0 lower_scanlines ∷
    draw (tiles3 shade30) 1 192 0 lower_tiles ∷
    draw_not [] 9 41 7 ∷
    draw_not (0x02 ∷ 0x00 ∷ 0x08 ∷ 0x03 ∷ drop 3 longer) 9 41 18 ∷
    draw_not longer 2 41 10 ∷
    draw_not small 2 41 12 ∷
    draw_not small 1 41 11 ∷
    []

pub record Sheets : Type 0 where
  pub columns : map across (1 ∷ 4 ∷ 5 ∷ 4096 ∷ []) ≡ 1 ∷ 1 ∷ 2 ∷ 1024 ∷ []
  pub in_all : blocks_of (head_of 0 9 6 3) ≡ 6
  pub scanlines : map (side_shown 6) (0 ∷ 1 ∷ 2 ∷ []) ≡ 4 ∷ 2 ∷ 0 ∷ []
  pub picture_shown : picture 5 6 (drop 3 small) ≡ upper_scanlines ++ lower_scanlines
  pub blocks : map (block_in small) (0 ∷ 1 ∷ 2 ∷ 3 ∷ []) ≡ shade10 ∷ shade20 ∷ shade30 ∷ shade40 ∷ []
  pub tiled_blocks : map (block_in (tiles3 shade30)) (0 ∷ 1 ∷ 2 ∷ 3 ∷ 4 ∷ 5 ∷ [])
      ≡ shade10 ∷ shade20 ∷ shade30 ∷ shade40 ∷ shade10 ∷ shade20 ∷ []
  pub blocks_read : map (λ c. block_read c.sheet c.block) block_claims ≡ map (λ c. c.answer) block_claims
  pub row_answers : map (λ c. row_refusal c.wide c.high c.row (length c.blocks) (length c.out)) row_claims
      ≡ map (λ c. c.answer) row_claims
  pub rows : map (λ c. row_out c.wide c.high c.row c.blocks c.out) row_claims ≡ map (λ c. c.left) row_claims
  pub sheet_row_answers : map (λ c. sheet_row_refusal c.sheet c.row (length c.out)) sheet_row_claims ≡ map (λ c. c.answer) sheet_row_claims
  pub sheet_rows : map (λ c. sheet_row_out c.sheet c.row c.out) sheet_row_claims ≡ map (λ c. c.left) sheet_row_claims
  pub answers : map (λ c. sheet_refusal (read_head c.before) c.before c.block c.of_block given) sheet_claims
      ≡ map (λ c. c.answer) sheet_claims
  pub sheets : map (λ c. sheet_after (read_head c.before) c.before c.block c.of_block given) sheet_claims ≡ map (λ c. c.left) sheet_claims

pub sheets_hold : Sheets
unfolding over table table_from weights weight_of drawn promoted eight mode_row kind_of_mode endpoint_count place_at pos width widths trailing number mode_of
    split_at split_of at_place opened has value_place p_place index_set_of index_place own line_of line_bits means_stored rotated line_at shown pixel pixels
    picture picture_byte block_at channel row_byte row_bytes row_out_up_to row_refusal_up_to block_by blocks_of find_refusal whole_refusal place_of put_block
    replaced_in sheet_after sheet_refusal first size_refusal_up_to read_head_up_to head_refusal_up_to form_in width_in height_in read_number
    read_groups raised replaced after refusal refusal_in line_fits value_fits p_fits index_fits own_width line_given put oriented with_line laid
    turned anchor_of block_of list_of bytes_of colour_in form_of colour_of colour_refusal stored_at stored_in_tiles count slot_of slot_in in_sheet column_at
    column_of_slot row_at row_of_slot tiles block_read blocks_as byte_as row_of sheet_row_out sheet_row_refusal whole.row_blocks
sheets_hold = record {
  columns = refl;
  in_all = refl;
  scanlines = refl;
  picture_shown = refl;
  blocks = refl;
  tiled_blocks = refl;
  blocks_read = refl;
  row_answers = refl;
  rows = refl;
  sheet_row_answers = refl;
  sheet_rows = refl;
  answers = refl;
  sheets = refl;
}

-- BY A CONSOLE OF BEFORE: the small sheet is corrected; one of 4,097 by 1 is not, nor is one of form 2, and their bytes stay
abbrev larger : List ℕ
larger = 0x01 ∷ 0x81 ∷ 0x20 ∷ 0x01 ∷ replicate 16400 0

pub record Before : Type 0 where
  pub answers : map (λ (s : List ℕ). sheet_refusal (old_head s) s 2 0 given) (small ∷ larger ∷ tiles3 shade30 ∷ []) ≡ 0 ∷ 9 ∷ 8 ∷ []
  pub sheets : map (λ (s : List ℕ). sheet_after (old_head s) s 2 0 given) (small ∷ larger ∷ tiles3 shade30 ∷ [])
      ≡ small_replaced ∷ larger ∷ tiles3 shade30 ∷ []

pub before_holds : Before
unfolding over table table_from mode_row kind_of_mode endpoint_count place_at pos width widths trailing number mode_of split_at split_of at_place opened has
    value_place p_place index_set_of index_place own line_of line_bits line_at block_at block_by blocks_of find_refusal whole_refusal place_of put_block replaced_in
    sheet_after sheet_refusal first size_refusal_up_to read_head_up_to head_refusal_up_to read_of_form_up_to of_form_refusal_up_to form_in width_in height_in
    read_number read_groups raised replaced after refusal refusal_in line_fits value_fits p_fits index_fits own_width line_given put oriented with_line laid
    turned anchor_of block_of list_of bytes_of colour_in form_of colour_of colour_refusal stored_at means_stored
before_holds = record { answers = refl; sheets = refl }

-- THE PROMISES: of each call an accepted answer, a refused one, and answers and bytes that it does not admit: another answer, another last pixel,
-- the next block, the sheet as it was, bytes that a refused call touched or answers
-- a sheet of 16,384 by 16,384 of which only the head is there: 10, and not 9
abbrev largest : List ℕ
largest = 0x01 ∷ 0x80 ∷ 0x80 ∷ 0x01 ∷ 0x80 ∷ 0x80 ∷ 0x01 ∷ []

abbrev answers : ℕ → List ℕ → BlockRead
answers r bs = record { refusal = r; block = bs }

pub record Promised : Type 0 where
  pub decodes_row : DecodesRow 5 6 1 lower (nines 40) 0 lower_scanlines
  pub decodes_row_not : DecodesRow 5 6 2 lower (nines 40) 12 (nines 40)
  pub decodes_largest : DecodesRow 16384 16384 4096 [] [] 12 []
  pub no_other_row_answer : DecodesRow 5 6 1 lower (nines 40) 12 lower_scanlines → ⊥
  pub no_row_let_through : DecodesRow 5 6 2 lower (nines 40) 0 (nines 40) → ⊥
  pub no_other_pixel : DecodesRow 5 6 1 lower (nines 40) 0 (set lower_scanlines 39 0) → ⊥
  pub no_output_touched : DecodesRow 5 6 2 lower (nines 40) 12 (set (nines 40) 39 0) → ⊥
  pub decodes_sheet_row : DecodesSheetRow small 1 (nines 40) 0 lower_scanlines
  pub decodes_tiled_row : DecodesSheetRow (tiles3 shade30) 1 (nines 192) 0 lower_tiles
  pub decodes_largest_sheet : DecodesSheetRow largest 0 [] 10 []
  pub decodes_sheet_row_not : DecodesSheetRow small 2 (nines 40) 12 (nines 40)
  pub no_other_sheet_row_answer : DecodesSheetRow small 1 (nines 40) 12 lower_scanlines → ⊥
  pub no_sheet_row_let_through : DecodesSheetRow small 2 (nines 40) 0 (nines 40) → ⊥
  pub no_other_sheet_pixel : DecodesSheetRow small 1 (nines 40) 0 (set lower_scanlines 39 0) → ⊥
  pub no_sheet_output_touched : DecodesSheetRow small 2 (nines 40) 12 (set (nines 40) 39 0) → ⊥
  pub reads_block : ReadsBlock (tiles3 shade30) 2 (Ok shade30)
  pub reads_block_not : ReadsBlock small 4 (Err BeyondSheet)
  pub reads_largest : ReadsBlock largest 0 (Err WrongBlockBytes)
  pub no_other_block : ReadsBlock (tiles3 shade30) 2 (Ok shade40) → ⊥
  pub no_other_block_answer : ReadsBlock small 4 (Err WrongBlockBytes) → ⊥
  pub no_block_refused : block_read small 4 ≡ answers 12 shade40 → ⊥
  pub replaces_in_sheet : ReplacesInSheet small 2 0 given 0 small_replaced
  pub replaces_in_sheet_not : ReplacesInSheet small 4 0 given 12 small
  pub replaces_no_line_1 : ReplacesInSheet small 2 1 given 2 small
  pub replaces_in_largest : ReplacesInSheet largest 0 0 given 10 largest
  pub not_as_it_was : ReplacesInSheet small 2 0 given 0 small → ⊥
  pub no_other_replace_answer : ReplacesInSheet small 2 0 given 12 small_replaced → ⊥
  pub no_byte_behind : ReplacesInSheet small 2 0 given 0 (set small_replaced 51 0) → ⊥
  pub no_sheet_touched : ReplacesInSheet small 4 0 given 12 small_replaced → ⊥

pub promises_hold : Promised
unfolding over table table_from weights weight_of drawn promoted eight mode_row kind_of_mode endpoint_count place_at pos width widths trailing number mode_of
    split_at split_of at_place opened has value_place p_place index_set_of index_place own line_of line_bits means_stored rotated line_at shown pixel pixels
    block_at channel row_byte row_bytes row_out_up_to row_refusal_up_to block_by blocks_of find_refusal whole_refusal place_of put_block
    replaced_in sheet_after sheet_refusal first size_refusal_up_to read_head_up_to head_refusal_up_to form_in width_in height_in read_number
    read_groups raised replaced after refusal refusal_in line_fits value_fits p_fits index_fits own_width line_given put oriented with_line laid
    turned anchor_of block_of list_of bytes_of colour_in form_of colour_of colour_refusal stored_at stored_in_tiles count slot_of slot_in in_sheet column_at
    column_of_slot row_at row_of_slot tiles block_read blocks_as byte_as row_of sheet_row_out sheet_row_refusal whole.row_blocks
promises_hold = record {
  decodes_row = (refl, refl);
  decodes_row_not = (refl, refl);
  decodes_largest = (refl, refl);
  no_other_row_answer = λ e. eqb_of _ _ e.0;
  no_row_let_through = λ e. eqb_of _ _ e.0;
  no_other_pixel = λ e. eqb_of _ _ (ap (λ (l : List ℕ). get_or l 39 0) e.1);
  no_output_touched = λ e. eqb_of _ _ (ap (λ (l : List ℕ). get_or l 39 0) e.1);
  decodes_sheet_row = (refl, refl);
  decodes_tiled_row = (refl, refl);
  decodes_largest_sheet = (refl, refl);
  decodes_sheet_row_not = (refl, refl);
  no_other_sheet_row_answer = λ e. eqb_of _ _ e.0;
  no_sheet_row_let_through = λ e. eqb_of _ _ e.0;
  no_other_sheet_pixel = λ e. eqb_of _ _ (ap (λ (l : List ℕ). get_or l 39 0) e.1);
  no_sheet_output_touched = λ e. eqb_of _ _ (ap (λ (l : List ℕ). get_or l 39 0) e.1);
  reads_block = refl;
  reads_block_not = refl;
  reads_largest = refl;
  no_other_block = λ e. eqb_of _ _ (ap (λ (b : BlockRead). get_or b.block 2 0) e);
  no_other_block_answer = λ e. eqb_of _ _ (ap (λ (b : BlockRead). b.refusal) e);
  no_block_refused = λ e. eqb_of _ _ (sym (ap (λ (b : BlockRead). get_or b.block 0 0) e));
  replaces_in_sheet = (refl, refl);
  replaces_in_sheet_not = (refl, refl);
  replaces_no_line_1 = (refl, refl);
  replaces_in_largest = (refl, refl);
  not_as_it_was = λ e. eqb_of _ _ (ap (λ (l : List ℕ). get_or l 36 0) e.1);
  no_other_replace_answer = λ e. eqb_of _ _ e.0;
  no_byte_behind = λ e. eqb_of _ _ (ap (λ (l : List ℕ). get_or l 51 0) e.1);
  no_sheet_touched = λ e. eqb_of _ _ (ap (λ (l : List ℕ). get_or l 36 0) e.1);
}
