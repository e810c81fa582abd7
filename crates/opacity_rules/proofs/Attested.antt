-- WHAT HOLDS THE DEFINITION OF OPACITY: blocks with what is visible of them and the answer, written out from document 02.
-- Assumes nothing.
use mathlib.Core.Path.{◌≡◌, refl, sym}
use mathlib.Core.Bool.{Bool, true, false}
use mathlib.Core.List.{List, [], ◌∷◌, ◌++◌, map}
use Prim.Native.Nat.{ℕ}
use lib.ListN.{replicate}
use Rattle.laws.specs.Tables.{implies, table, table_from}
use Rattle.laws.proofs.Tests.{no_both}
use Rattle.bcn_format.specs.Block.{number, trailing}
use Rattle.bcn_format.specs.Drawing.{drawn, promoted, weight_of, weights}
use Rattle.bcn_format.specs.Partitions.{anchors2, anchors3, digits, marks, strings2, strings3, subset2, subset3}
use Rattle.bc7_format.specs.Modes.{mode_of, endpoint_count, kind_of_mode, mode_row}
use Rattle.bc7_format.specs.Lines.{eight, index_set_of, has, index_place, line_at, line_bits, line_of, means_stored, own, p_place, pixel, rotated}
use Rattle.bc7_format.specs.Lines.{shown, value_place}
use Rattle.bc7_format.specs.Places.{at_place, opened, place_at, pos, width, widths}
use Rattle.bc7_format.specs.Splits.{split_at, split_of}
use Rattle.bc7_format.proofs.Examples.{block4}
use Rattle.opacity_rules.specs.Opacity.{is_visible, opaque, opaque_in, opaque_short, passes}
use Rattle.opacity_rules.specs.Promises.{TellsOpaque}

-- mode 6: seven bits of the marker, then two reds, greens, blues and alphas of seven bits (the alphas from bit 49 and from bit 56 on), p bits at 63
-- and 64, indexes from 65 on. Both alphas 127 with p 1: 255 everywhere
abbrev solid : List ℕ
solid = 0x40 ∷ (replicate 5 0 ++ (0xFE ∷ 0xFF ∷ 0x01 ∷ replicate 7 0))

-- with p 0: 254 everywhere
abbrev nearly : List ℕ
nearly = 0x40 ∷ (replicate 5 0 ++ (0xFE ∷ 0x7F ∷ replicate 8 0))

-- from 255 to 0, where index 0 draws 255: what stands behind are the indexes of the pixels, two a byte. One pixel alone has another: pixel 0
-- (column 0, row 0) 7, pixel 6 (column 2, row 1) 15, pixel 15 (column 3, row 3) 15
abbrev graded : List ℕ → List ℕ
graded indexes = 0x40 ∷ (replicate 5 0 ++ (0xFE ∷ 0x80 ∷ indexes))

abbrev first : List ℕ
first = graded (0x0E ∷ replicate 7 0)

abbrev middle : List ℕ
middle = graded (0x00 ∷ 0x00 ∷ 0x00 ∷ 0x0F ∷ replicate 4 0)

abbrev corner : List ℕ
corner = graded (replicate 7 0 ++ (0xF0 ∷ []))

-- mode 5, rotation 1, which exchanges alpha and red: red is stored as 127, so 255, in both endpoints, and alpha as 0; and the other way round
abbrev shown_as_alpha : List ℕ
shown_as_alpha = 0x60 ∷ 0xFF ∷ 0x3F ∷ replicate 13 0

abbrev shown_as_red : List ℕ
shown_as_red = 0x60 ∷ (replicate 5 0 ++ (0xFC ∷ 0xFF ∷ 0x03 ∷ replicate 7 0))

abbrev reserved : List ℕ
reserved = replicate 16 0

pub record Claim : Type 0 where
  pub block : List ℕ
  pub columns : ℕ
  pub rows : ℕ
  pub answer : Bool

abbrev yes : List ℕ → ℕ → ℕ → Claim
yes b columns rows = record { block = b; columns = columns; rows = rows; answer = true }

abbrev no : List ℕ → ℕ → ℕ → Claim
no b columns rows = record { block = b; columns = columns; rows = rows; answer = false }

abbrev pub claims : List Claim
claims =
    yes solid 4 4 ∷
    no nearly 1 1 ∷
    -- a pixel that is visible counts, one that is hidden doesn't
    no first 1 1 ∷
    no middle 3 2 ∷
    yes middle 2 4 ∷
    yes middle 4 1 ∷
    no corner 4 4 ∷
    yes corner 3 4 ∷
    yes corner 4 3 ∷
    yes corner 1 1 ∷
    -- above 4 counts as 4; nothing is visible
    no corner 5 4294967295 ∷
    yes nearly 0 4 ∷
    yes nearly 4 0 ∷
    -- alpha is what is drawn, rotation done
    yes shown_as_alpha 4 4 ∷
    no shown_as_red 1 1 ∷
    -- mode 3 stores no alpha; a reserved block draws 0
    yes (0x08 ∷ replicate 15 0) 4 4 ∷
    no reserved 1 1 ∷
    yes reserved 0 0 ∷
    []

pub opaque_as_claimed : map (λ c. opaque c.columns c.rows c.block) claims ≡ map (λ c. c.answer) claims
unfolding implies table table_from digits marks strings2 strings3 subset2 subset3 anchors2 anchors3 weights weight_of drawn promoted eight
    mode_row kind_of_mode endpoint_count place_at pos width widths trailing number mode_of split_at split_of at_place opened has value_place p_place
    index_set_of index_place own line_of line_bits means_stored rotated line_at shown pixel is_visible passes opaque
opaque_as_claimed = refl

-- the short way, of the modes 3, 4 (which shows alpha 27 and more), 6 and 8
pub short_as_claimed : map (opaque_short 4 4) ((0x08 ∷ replicate 15 0) ∷ block4 ∷ solid ∷ corner ∷ reserved ∷ [])
    ≡ true ∷ false ∷ true ∷ false ∷ false ∷ []
unfolding implies table table_from digits marks strings2 strings3 subset2 subset3 anchors2 anchors3 weights weight_of drawn promoted eight
    mode_row kind_of_mode endpoint_count place_at pos width widths trailing number mode_of split_at split_of at_place opened has value_place p_place
    index_set_of index_place own line_of line_bits means_stored rotated line_at shown pixel is_visible passes opaque_short
short_as_claimed = refl

-- a sheet of 9 by 6 has three columns and two rows of blocks; of the third column one column of pixels is shown, and of the second row two rows
pub in_a_sheet : map (λ (b : List ℕ). map (λ (n : ℕ). opaque_in 9 6 n b) (0 ∷ 1 ∷ 2 ∷ 3 ∷ 4 ∷ 5 ∷ [])) (middle ∷ corner ∷ reserved ∷ [])
    ≡ (false ∷ false ∷ true ∷ false ∷ false ∷ true ∷ []) ∷
    (false ∷ false ∷ true ∷ true ∷ true ∷ true ∷ []) ∷
    (false ∷ false ∷ false ∷ false ∷ false ∷ false ∷ []) ∷
    []
unfolding implies table table_from digits marks strings2 strings3 subset2 subset3 anchors2 anchors3 weights weight_of drawn promoted eight
    mode_row kind_of_mode endpoint_count place_at pos width widths trailing number mode_of split_at split_of at_place opened has value_place p_place
    index_set_of index_place own line_of line_bits means_stored rotated line_at shown pixel is_visible passes opaque opaque_in
in_a_sheet = refl

-- THE PROMISE: two columns of the block hide its pixel 6 and two rows don't; so the answer for the one isn't that for the other
pub promise_holds : TellsOpaque middle 2 4 true × TellsOpaque middle 4 2 false × (TellsOpaque middle 2 4 false → ⊥)
unfolding implies table table_from digits marks strings2 strings3 subset2 subset3 anchors2 anchors3 weights weight_of drawn promoted eight
    mode_row kind_of_mode endpoint_count place_at pos width widths trailing number mode_of split_at split_of at_place opened has value_place p_place
    index_set_of index_place own line_of line_bits means_stored rotated line_at shown pixel is_visible passes opaque
promise_holds = (refl, refl, λ e. no_both refl (sym e))
