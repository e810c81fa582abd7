-- WHAT HOLDS THE DEFINITION OF A LISTING: listings written out whole (format's Examples and Attested have what the blocks store and
-- show).
-- Assumes nothing.
use mathlib.Core.Path.{◌≡◌, refl}
use mathlib.Core.List.{List, [], ◌∷◌, ◌++◌, map}
use Prim.Native.Nat.{ℕ}
use lib.ListN.{replicate}
use Rattle.laws.proofs.Attested.{text}
use Rattle.laws.specs.Refusals.{first}
use Rattle.laws.specs.Tables.{implies, table, table_from}
use Rattle.bc7_format.specs.Modes.{mode_of, endpoint_count, kind_of_mode, mode_row}
use Rattle.bcn_format.specs.Block.{block_at, number, trailing}
use Rattle.bcn_format.specs.Drawing.{drawn, promoted, weight_of, weights}
use Rattle.bc7_format.specs.Lines.{eight, index_set_of, has, index_place, line_at, line_bits, line_of, means_stored, own, p_place, pixel, pixels, rotated}
use Rattle.bc7_format.specs.Lines.{shown, value_place}
use Rattle.bcn_format.specs.Partitions.{anchors2, anchors3, digits, marks, strings2, strings3, subset2, subset3}
use Rattle.bc7_format.specs.Places.{at_place, opened, place_at, pos, width, widths}
use Rattle.bc7_format.specs.Splits.{split_at, split_of}
use Rattle.bc7_format.proofs.Examples.{block3, block4}
use Rattle.head_rules.specs.Geometry.{blocks_of}
use Rattle.laws.specs.Counting.{kept}
use Rattle.tile_rules.specs.Tiles.{number_in_tiles, column_at, column_of_slot, in_sheet, row_at, row_of_slot, slots, stored_order, tiles}
use Rattle.tile_rules.specs.Tiles as tiling
use Rattle.head_rules.specs.Colours.{colour_refusal}
use Rattle.head_rules.specs.Geometry.{number_at}
use Rattle.head_rules.specs.Heads.{colour_in, form_in, form_of, head_refusal_up_to, height_in, of_form_refusal_up_to, old_head, read_head, read_head_up_to}
use Rattle.head_rules.specs.Heads.{read_of_form_up_to, size_refusal_up_to, width_in}
use Rattle.head_rules.specs.Numbers.{raised, read_groups, read_number}
use Rattle.laws.specs.Text.{ascii, decimal, digits_in, refused_text}
use Rattle.listing_rules.specs.Text.{block_text, channels, opacity_mark, sheet_text}
use Rattle.opacity_rules.specs.Opacity.{is_visible, opaque, opaque_in, passes}
use Rattle.listing_rules.specs.Machine.{run_of}
use Rattle.listing_rules.specs.Listing.{block_listed, blocks_listing, blocks_text, listed, listing}

-- mode 6: all pixels have alpha 255 but pixel 1, in the second column, which has 0
abbrev block6 : List ℕ
block6 = 0x40 ∷ (replicate 5 0 ++ (0xFE ∷ 0x80 ∷ 0xF0 ∷ replicate 7 0))

-- a sheet of 5 by 6 pixels: two rows of two blocks, with what is given in the place of the last. Of the blocks 1 and 3 one column is shown
abbrev sheet : List ℕ → List ℕ
sheet last = (0x01 ∷ 0x05 ∷ 0x06 ∷ []) ++ block3 ++ block6 ++ block4 ++ last

-- a whole sheet, whose last block is reserved; a byte more; a byte less; a sheet of another form
pub listings_hold : map (λ (s : List ℕ). listing (read_head s) s)
    (sheet (replicate 16 0) ∷ sheet (replicate 17 0) ∷ sheet (replicate 15 0) ∷ (0x03 ∷ []) ∷ [])
    ≡ map text
    (("sheet 5 6" ∷ "0 3 3 5 7 255 o" ∷ "1 6 1 1 1 255 o" ∷ "2 4 11 29 44 28 -" ∷ "3 8 0 0 0 0 -" ∷ []) ∷
    ("sheet 5 6" ∷ "0 3 3 5 7 255 o" ∷ "1 6 1 1 1 255 o" ∷ "2 4 11 29 44 28 -" ∷ "3 8 0 0 0 0 -" ∷ "refused 10" ∷ []) ∷
    ("sheet 5 6" ∷ "0 3 3 5 7 255 o" ∷ "1 6 1 1 1 255 o" ∷ "2 4 11 29 44 28 -" ∷ "refused 10" ∷ []) ∷
    ("refused 8" ∷ []) ∷
    [])
unfolding text listing blocks_listing listed blocks_text block_listed read_head_up_to head_refusal_up_to form_in width_in height_in read_number
    read_groups raised first size_refusal_up_to blocks_of block_at sheet_text refused_text block_text channels opacity_mark decimal digits_in ascii
    table table_from digits marks strings2 strings3 subset2 subset3 anchors2 anchors3 weights weight_of drawn promoted eight mode_row
    kind_of_mode endpoint_count place_at pos width widths trailing number mode_of split_at split_of at_place opened has value_place p_place index_set_of
    index_place own line_of line_bits means_stored rotated line_at shown pixel pixels implies is_visible passes opaque opaque_in colour_in form_of number_at
    colour_refusal
listings_hold = refl

-- the runs of blocks in sheets of 4,096 by 4 and of 4,100 by 8 pixels, 1,024 and 1,025 blocks wide: from the first block, from another, from the
-- last one that a row of 1,024 has, and from the one behind it, which is the last of a row of 1,025 and is a run by itself
pub runs_hold : map (run_of (read_head (0x01 ∷ 0x80 ∷ 0x20 ∷ 0x04 ∷ []))) (0 ∷ 1 ∷ 1023 ∷ [])
    ++ map (run_of (read_head (0x01 ∷ 0x84 ∷ 0x20 ∷ 0x08 ∷ []))) (0 ∷ 1 ∷ 1023 ∷ 1024 ∷ 1025 ∷ [])
    ≡ 1024 ∷ 1023 ∷ 1 ∷ 1024 ∷ 1024 ∷ 2 ∷ 1 ∷ 1024 ∷ []
unfolding run_of read_head_up_to head_refusal_up_to form_in width_in height_in read_number read_groups raised first size_refusal_up_to colour_in form_of
    colour_refusal
runs_hold = refl

-- a sheet of form 2, 9 by 8 pixels: the stored order 0 1 3 4 2 5, each block with its number; of block 2, stored fifth, one column is shown,
-- of block 3, stored third, all four
pub tiled_holds : let s : List ℕ = (0x02 ∷ 0x09 ∷ 0x08 ∷ 0x01 ∷ []) ++ block3 ++ block4 ++ block6 ++ replicate 16 0 ++ block6 ++ block3 in
    listing (read_head s) s
    ≡ text ("sheet 9 8" ∷ "0 3 3 5 7 255 o" ∷ "1 4 11 29 44 28 -" ∷ "3 6 1 1 1 255 -" ∷ "4 8 0 0 0 0 -" ∷ "2 6 1 1 1 255 o" ∷ "5 3 3 5 7 255 o" ∷ [])
unfolding text listing blocks_listing listed blocks_text block_listed read_head_up_to head_refusal_up_to form_in width_in height_in read_number
    read_groups raised first size_refusal_up_to blocks_of block_at sheet_text refused_text block_text channels opacity_mark decimal digits_in ascii
    table table_from digits marks strings2 strings3 subset2 subset3 anchors2 anchors3 weights weight_of drawn promoted eight mode_row
    kind_of_mode endpoint_count place_at pos width widths trailing number mode_of split_at split_of at_place opened has value_place p_place index_set_of
    index_place own line_of line_bits means_stored rotated line_at shown pixel pixels implies is_visible passes opaque opaque_in colour_in form_of number_at
    colour_refusal number_in_tiles stored_order kept in_sheet column_at column_of_slot row_at row_of_slot slots tiles tiling.number_in_slot
tiled_holds = refl

-- by a console of before, of a sheet of 4,097 by 1, and of one of form 2 with all of its blocks
pub before_holds : map (λ (s : List ℕ). listing (old_head s) s)
    ((0x01 ∷ 0x81 ∷ 0x20 ∷ 0x01 ∷ replicate 16400 0) ∷ (0x02 ∷ 0x04 ∷ 0x04 ∷ 0x00 ∷ block3) ∷ [])
    ≡ map text (("refused 9" ∷ []) ∷ ("refused 8" ∷ []) ∷ [])
unfolding text listing read_of_form_up_to of_form_refusal_up_to head_refusal_up_to form_in width_in height_in colour_in form_of colour_refusal read_number read_groups
    raised first size_refusal_up_to refused_text decimal digits_in ascii
before_holds = refl
