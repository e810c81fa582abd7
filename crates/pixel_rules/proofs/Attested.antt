-- WHAT HOLDS THE DEFINITIONS OF READING ONE PIXEL: strings, first bits and pixels, written down on paper from documents 01 and 02.
-- Assumes nothing.
use mathlib.Core.Path.{◌≡◌, refl, ap}
use mathlib.Core.Bool.{true, false}
use mathlib.Core.List.{List, [], ◌∷◌, map}
use Prim.Native.Nat.{ℕ}
use lib.ListN.{get_or, replicate}
use Rattle.laws.specs.Refusals.{first}
use Rattle.laws.specs.Tables.{table, table_from}
use Rattle.laws.proofs.Tests.{eqb_of}
use Rattle.bcn_format.specs.Block.{field, number, trailing}
use Rattle.bcn_format.specs.Drawing.{drawn, promoted, weight_of, weights}
use Rattle.bcn_format.specs.Partitions.{anchors2, anchors3, digits, marks, strings2, strings3, subset2, subset3}
use Rattle.bc7_fields.specs.Fields.{end_byte, lead_end, p_start, value_start}
use Rattle.bc7_format.specs.Lines.{eight, has, index_place, index_set_of, line_at, line_bits, line_of, means_stored, own}
use Rattle.bc7_format.specs.Lines.{p_place, pixel, rotated, shown, value_place}
use Rattle.bc7_format.specs.Modes.{endpoint_count, kind_of_mode, mode_of, mode_row}
use Rattle.bc7_format.specs.Places.{at_place, opened, place_at, pos, width, widths}
use Rattle.bc7_format.specs.Splits.{split_at, split_of}
use Rattle.bc7_format.proofs.Examples.{block0, block4, block7}
use Rattle.refusals.specs.Answers.{Answer}
use Rattle.std.specs.Prelude.{Ok, Err}
use Rattle.refusals.specs.declared.Refusal.TheVariants.{NoSuchPixel}
use Rattle.pixel_rules.specs.Columns.{column_of, printed_rows}
use Rattle.pixel_rules.specs.Pixels.{pixel_read, pixel_refusal}
use Rattle.pixel_rules.specs.Promises.{ReadsPixel}
use Rattle.pixel_rules.specs.Plain.{channel_in, first_start, index_start, index_wide, letters_of, plain_channel, plain_pixel, set_for, set_start}
use Rattle.pixel_rules.specs.Strings.{anchors_before, is_anchor_in, letters, place_in, string_for, subset_spelt}

-- three subsets, partition 23: 00001100-22-102210. Pixel 8 is the anchor of subset 2 and pixel 10 that of subset 1
abbrev cs23 : List ℕ
cs23 = letters (get_or strings3 23 "")

pub string_23 : cs23 ≡ 48 ∷ 48 ∷ 48 ∷ 48 ∷ 49 ∷ 49 ∷ 48 ∷ 48 ∷ 45 ∷ 50 ∷ 50 ∷ 45 ∷ 49 ∷ 48 ∷ 50 ∷ 50 ∷ 49 ∷ 48 ∷ []
unfolding letters strings3
string_23 = refl

-- the places of the digits, past both dashes; the subsets; the anchors; how many of them come before the pixels 0 to 16
pub walked_23 : (map (place_in cs23) (0 ∷ 7 ∷ 8 ∷ 9 ∷ 10 ∷ 15 ∷ []) ≡ 0 ∷ 7 ∷ 9 ∷ 10 ∷ 12 ∷ 17 ∷ [])
    × (table 16 (subset_spelt cs23) ≡ 0 ∷ 0 ∷ 0 ∷ 0 ∷ 1 ∷ 1 ∷ 0 ∷ 0 ∷ 2 ∷ 2 ∷ 1 ∷ 0 ∷ 2 ∷ 2 ∷ 1 ∷ 0 ∷ [])
    × (map (is_anchor_in cs23) (0 ∷ 1 ∷ 7 ∷ 8 ∷ 9 ∷ 10 ∷ 11 ∷ 15 ∷ []) ≡ true ∷ false ∷ false ∷ true ∷ false ∷ true ∷ false ∷ false ∷ [])
    × (map (anchors_before cs23) (0 ∷ 1 ∷ 8 ∷ 9 ∷ 10 ∷ 11 ∷ 16 ∷ []) ≡ 0 ∷ 1 ∷ 1 ∷ 2 ∷ 2 ∷ 3 ∷ 3 ∷ [])
unfolding letters strings3 place_in subset_spelt is_anchor_in anchors_before table table_from
walked_23 = (refl, refl, refl, refl)

-- mode 2 in that partition has its indexes from bit 99 on, two bits each and one at an anchor; the last ends with the block
pub bits_23 : (map (index_start 2 cs23 0) (0 ∷ 1 ∷ 8 ∷ 9 ∷ 10 ∷ 11 ∷ 15 ∷ []) ≡ 99 ∷ 100 ∷ 114 ∷ 115 ∷ 117 ∷ 118 ∷ 126 ∷ [])
    × (map (index_wide 2 cs23 0) (0 ∷ 1 ∷ 8 ∷ 9 ∷ 10 ∷ 11 ∷ 15 ∷ []) ≡ 1 ∷ 2 ∷ 1 ∷ 2 ∷ 1 ∷ 2 ∷ 2 ∷ [])
unfolding letters strings3 place_in is_anchor_in anchors_before lead_end first_start set_start index_start index_wide mode_row endpoint_count
bits_23 = (refl, refl)

-- mode 4: the first indexes from bit 50 on, the second from bit 81 on, whichever serve
pub bits_4 : (map (index_start 4 (letters (string_for 1 0)) 0) (0 ∷ 1 ∷ 15 ∷ []) ≡ 50 ∷ 51 ∷ 79 ∷ [])
    × (map (index_start 4 (letters (string_for 1 0)) 1) (0 ∷ 1 ∷ 15 ∷ []) ≡ 81 ∷ 83 ∷ 125 ∷ [])
    × (map (set_for 4 1) (0 ∷ 2 ∷ 3 ∷ []) ≡ 1 ∷ 1 ∷ 0 ∷ []) × (map (set_for 4 0) (0 ∷ 2 ∷ 3 ∷ []) ≡ 0 ∷ 0 ∷ 1 ∷ [])
    × (map (set_for 6 0) (0 ∷ 3 ∷ []) ≡ 0 ∷ 0 ∷ [])
unfolding letters string_for place_in anchors_before lead_end first_start set_start index_start set_for mode_row endpoint_count
bits_4 = (refl, refl, refl, refl, refl)

abbrev rgba : ℕ → ℕ → ℕ → ℕ → List ℕ
rgba r g b a = r ∷ g ∷ b ∷ a ∷ []

-- pixels read plainly: of block4 (rotation 2, index mode 1) and of block7 (two subsets, the upper half and the lower); block0 has alpha 255
pub read_plainly :
    (map (λ (q : ℕ). table 4 (plain_pixel block4 q)) (0 ∷ 1 ∷ 7 ∷ 8 ∷ [])
    ≡ rgba 11 29 44 28 ∷ rgba 13 31 46 29 ∷ rgba 10 28 43 27 ∷ rgba 11 29 44 28 ∷ [])
    × (table 4 (plain_pixel block7 9) ≡ rgba 109 117 125 134)
    × (table 4 (plain_pixel block0 0) ≡ rgba 24 41 57 255)
    × (table 4 (plain_pixel (replicate 16 0) 3) ≡ rgba 0 0 0 0)
unfolding table table_from field number trailing drawn promoted weight_of weights strings2 strings3 end_byte lead_end p_start value_start
    eight rotated endpoint_count mode_of mode_row column_of printed_rows channel_in first_start index_start index_wide letters_of plain_channel
    plain_pixel set_for set_start anchors_before is_anchor_in letters place_in string_for subset_spelt
read_plainly = (refl, refl, refl, refl)

-- 21 from 16 on, whole: 256 + p isn't pixel p
pub refusals : map pixel_refusal (0 ∷ 15 ∷ 16 ∷ 17 ∷ 255 ∷ 256 ∷ 271 ∷ 4294967295 ∷ []) ≡ 0 ∷ 0 ∷ 21 ∷ 21 ∷ 21 ∷ 21 ∷ 21 ∷ 21 ∷ []
unfolding pixel_refusal first
refusals = refl

abbrev answer : ℕ → List ℕ → Answer (List ℕ)
answer r l = record { refusal = r; value = l }

pub answers : (pixel_read block4 1 ≡ answer 0 (rgba 13 31 46 29)) × (pixel_read block4 16 ≡ answer 21 (rgba 0 0 0 0))
    × (pixel_read (replicate 16 0) 15 ≡ answer 0 (rgba 0 0 0 0)) × (pixel_read (replicate 16 0) 16 ≡ answer 21 (rgba 0 0 0 0))
unfolding first table table_from digits marks strings2 strings3 subset2 subset3 anchors2 anchors3 weights weight_of drawn promoted eight
    mode_row kind_of_mode endpoint_count place_at pos width widths trailing number mode_of split_at split_of at_place opened has value_place p_place
    index_set_of index_place own line_of line_bits means_stored rotated line_at shown pixel pixel_refusal pixel_read
answers = (refl, refl, refl, refl)

-- THE PROMISE: an accepted answer, a refused one, and one that it does not admit: the pixel before its rotation, which exchanges green and alpha
pub promise_holds : ReadsPixel block4 1 (Ok (rgba 13 31 46 29)) × ReadsPixel block4 16 (Err NoSuchPixel)
    × (ReadsPixel block4 1 (Ok (rgba 13 29 46 31)) → ⊥)
unfolding first table table_from digits marks strings2 strings3 subset2 subset3 anchors2 anchors3 weights weight_of drawn promoted eight
    mode_row kind_of_mode endpoint_count place_at pos width widths trailing number mode_of split_at split_of at_place opened has value_place p_place
    index_set_of index_place own line_of line_bits means_stored rotated line_at shown pixel pixel_refusal pixel_read
promise_holds = (refl, refl, λ e. eqb_of _ _ (ap (λ (r : Answer (List ℕ)). get_or r.value 1 0) e))
