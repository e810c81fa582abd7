-- WHAT HOLDS THE DEFINITIONS OF MODES AND LINES: numbers that a reader can check on paper. (Chart has the fields of the modes, the
-- crate document_01 whole blocks; bits, drawing and partitions are held in bcn_format.)
-- Assumes nothing.
use mathlib.Core.Path.{◌≡◌, refl}
use mathlib.Core.List.{List, [], ◌∷◌, ◌++◌, map}
use Prim.Native.Nat.{ℕ, ◌+◌, ◌*◌}
use lib.ListN.{replicate}
use Rattle.bc7_format.specs.declared.Place.TheVariants.{PBit}
use Rattle.bc7_format.specs.declared.Split.TheVariants.{Two}
use Rattle.laws.specs.Tables.{table, table_from}
use Rattle.bcn_format.specs.Block.{number, trailing}
use Rattle.bc7_format.specs.Modes.{mode_of, endpoint_count, kind_of_mode, mode_row}
use Rattle.bcn_format.specs.Drawing.{drawn, promoted, weight_of, weights}
use Rattle.bc7_format.specs.Lines.{eight, Line, index_set_of, has, index_place, laid, line_at, line_bits, line_of, means_stored, own, p_place, pixel}
use Rattle.bc7_format.specs.Lines.{rotated, shown, turned, value_place, with_line}
use Rattle.bcn_format.specs.Partitions.{anchors2, anchors3, digits, marks, strings2, strings3, subset2, subset3}
use Rattle.bc7_format.specs.Places.{at_place, list_of, opened, place_at, pos, width, widths}
use Rattle.bc7_format.specs.Splits.{split_at, split_of}
use Rattle.bc7_format.proofs.Examples.{block0, block3, block4, block7}

-- the mode goes by the first byte, of which all but its lowest one may be anything
pub modes_by_first_byte : map (λ (b : ℕ). mode_of (b ∷ replicate 15 0xFF)) (0x01 ∷ 0xFE ∷ 0x04 ∷ 0xF8 ∷ 0x10 ∷ 0xE0 ∷ 0x40 ∷ 0x80 ∷ 0x00 ∷ [])
    ≡ 0 ∷ 1 ∷ 2 ∷ 3 ∷ 4 ∷ 5 ∷ 6 ∷ 7 ∷ 8 ∷ []
unfolding trailing mode_of
modes_by_first_byte = refl

-- rotation 0, 1, 2, 3: red, green, blue and alpha as they are; alpha exchanged with red; with green; with blue
pub rotations : map (λ (r : ℕ). map (rotated r) (0 ∷ 1 ∷ 2 ∷ 3 ∷ [])) (0 ∷ 1 ∷ 2 ∷ 3 ∷ [])
    ≡ (0 ∷ 1 ∷ 2 ∷ 3 ∷ []) ∷ (3 ∷ 1 ∷ 2 ∷ 0 ∷ []) ∷ (0 ∷ 3 ∷ 2 ∷ 1 ∷ []) ∷ (0 ∷ 1 ∷ 3 ∷ 2 ∷ []) ∷ []
unfolding rotated
rotations = refl

-- p is appended before promotion: red 1000 of mode 0 is 10000 or 10001 with its p bit, and 10000100 or 10001100 as eight bits
pub p_before_promotion : eight 0 0 8 0 ∷ eight 0 0 8 1 ∷ [] ≡ 132 ∷ 140 ∷ []
unfolding eight promoted mode_row
p_before_promotion = refl

-- the first and the last pixel of four blocks (Examples has what they store). Of block4, which rotates last: pixel 0 has index 1 of two
-- bits for alpha, weight 21, and index 3 of three bits for colour, weight 27; green shows alpha's (43 · 28 + 21 · 32 + 32) / 64, and
-- alpha shows green's (37 · 24 + 27 · 33 + 32) / 64
pub blocks_show : map (λ (b : List ℕ). map (λ (q : ℕ). map (pixel b q) (0 ∷ 1 ∷ 2 ∷ 3 ∷ [])) (0 ∷ 15 ∷ [])) (block0 ∷ block3 ∷ block4 ∷ block7 ∷ [])
    ≡ ((24 ∷ 41 ∷ 57 ∷ 255 ∷ []) ∷ (0 ∷ 0 ∷ 0 ∷ 255 ∷ []) ∷ []) ∷
    ((3 ∷ 5 ∷ 7 ∷ 255 ∷ []) ∷ (0 ∷ 0 ∷ 0 ∷ 255 ∷ []) ∷ []) ∷
    ((11 ∷ 29 ∷ 44 ∷ 28 ∷ []) ∷ (10 ∷ 28 ∷ 43 ∷ 27 ∷ []) ∷ []) ∷
    ((21 ∷ 29 ∷ 37 ∷ 46 ∷ []) ∷ (88 ∷ 96 ∷ 104 ∷ 112 ∷ []) ∷ []) ∷
    []
unfolding table table_from weights weight_of drawn promoted eight mode_row kind_of_mode endpoint_count place_at pos width widths trailing number mode_of
    split_at split_of at_place opened has value_place p_place index_set_of index_place own line_of line_bits means_stored rotated line_at shown pixel subset2
    subset3 anchors2 anchors3 digits marks strings2 strings3
blocks_show = refl

-- a line: endpoint 0 is 0 1 2 3, endpoint 1 is 10 11 12 13; p 4 and 5; pixel q has index q
abbrev counted : Line
counted = record { value = λ k c. 10 * k + c; p = λ k. 4 + k; index = λ q. q }

pub record LineTurnedAndPut : Type 0 where
  pub turned_values : map (λ (k : ℕ). map ((turned 4 counted).value k) (0 ∷ 1 ∷ 2 ∷ 3 ∷ [])) (0 ∷ 1 ∷ [])
      ≡ (10 ∷ 11 ∷ 12 ∷ 13 ∷ []) ∷ (0 ∷ 1 ∷ 2 ∷ 3 ∷ []) ∷ []
  pub turned_p : map (turned 4 counted).p (0 ∷ 1 ∷ []) ≡ 5 ∷ 4 ∷ []
  pub turned_indexes : map (turned 4 counted).index (0 ∷ 1 ∷ 14 ∷ 15 ∷ []) ≡ 15 ∷ 14 ∷ 1 ∷ 0 ∷ []
  -- put in as line 1 of mode 7 and partition 13, the lower half, where 99 stood everywhere: the lead; red, green, blue and alpha of the
  -- endpoints 0 to 5; the p bits; the first indexes; the second
  pub put : list_of (with_line 7 (Two 13) 1 counted (λ x. 99))
      ≡ (99 ∷ 99 ∷ 99 ∷ 99 ∷ [])
      ++ (99 ∷ 99 ∷ 0 ∷ 10 ∷ 99 ∷ 99 ∷ []) ++ (99 ∷ 99 ∷ 1 ∷ 11 ∷ 99 ∷ 99 ∷ [])
      ++ (99 ∷ 99 ∷ 2 ∷ 12 ∷ 99 ∷ 99 ∷ []) ++ (99 ∷ 99 ∷ 3 ∷ 13 ∷ 99 ∷ 99 ∷ [])
      ++ (99 ∷ 99 ∷ 4 ∷ 5 ∷ 99 ∷ 99 ∷ [])
      ++ (replicate 8 99 ++ (8 ∷ 9 ∷ 10 ∷ 11 ∷ 12 ∷ 13 ∷ 14 ∷ 15 ∷ []))
      ++ replicate 16 99
  -- in mode 1 its one p bit is the first's
  pub put_p : map (with_line 1 (Two 13) 1 counted (λ x. 99)) (PBit 0 ∷ PBit 1 ∷ PBit 2 ∷ []) ≡ 99 ∷ 4 ∷ 99 ∷ []

pub line_turned_and_put : LineTurnedAndPut
unfolding table table_from list_of place_at width mode_row endpoint_count has with_line laid turned subset2 digits strings2
line_turned_and_put = record { turned_values = refl; turned_p = refl; turned_indexes = refl; put = refl; put_p = refl }
