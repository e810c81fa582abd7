-- WHAT HOLDS THE DEFINITIONS OF THE NEAREST INDEX AND OF THE ONE THAT HITS: calls with their answers, written out from document 02.
-- Assumes nothing.
use mathlib.Core.Path.{◌≡◌, refl, ap}
use mathlib.Core.List.{List, [], ◌∷◌, ◌++◌, map}
use Prim.Native.Nat.{ℕ}
use lib.ListN.{replicate}
use Rattle.std.specs.Prelude.{Ok, Err}
use Rattle.refusals.specs.Answers.{Answer}
use Rattle.refusals.specs.declared.Refusal.TheVariants.{NoExactIndex, PixelNotInLine}
use Rattle.laws.specs.Refusals.{first}
use Rattle.laws.specs.Tables.{table, table_from}
use Rattle.laws.proofs.Tests.{eqb_of}
use Rattle.bcn_format.specs.Block.{number, trailing}
use Rattle.bcn_format.specs.Drawing.{drawn, promoted, weight_of, weights}
use Rattle.bcn_format.specs.Partitions.{anchors2, anchors3, digits, marks, strings2, strings3, subset2, subset3}
use Rattle.bc7_format.specs.Modes.{mode_of, endpoint_count, kind_of_mode, mode_row}
use Rattle.bc7_format.specs.Lines.{draws, eight, has, index_place, index_set_of, line_at, line_bits, line_of, means_shown, means_stored, own, p_place}
use Rattle.bc7_format.specs.Lines.{rotated, value_place}
use Rattle.bc7_format.specs.Places.{at_place, opened, place_at, pos, width, widths}
use Rattle.bc7_format.specs.Splits.{split_at, split_of}
use Rattle.bc7_format.proofs.Examples.{block7}
use Rattle.line_rules.specs.Read.{read_refusal}
use Rattle.nearest_rules.specs.Nearest.{channel_distance, distance, drawn_with, exact_index, exact_refusal, in_line, index_count, least_at}
use Rattle.nearest_rules.specs.Nearest.{nearest_index, nearest_refusal, squared, with_index, zero_at}
use Rattle.nearest_rules.specs.Promises.{FindsExact, FindsNearest}

-- a call, and what the nearest index and the one that hits are
pub record Claim : Type 0 where
  pub block : List ℕ
  pub line : ℕ
  pub pixel : ℕ
  pub wanted : List ℕ
  pub nearest : Answer ℕ
  pub exact : Answer ℕ

abbrev refused : ℕ → Answer ℕ
refused n = record { refusal = n; value = 0 }

abbrev index : ℕ → Answer ℕ
index i = record { refusal = 0; value = i }

abbrev rgba : ℕ → ℕ → ℕ → ℕ → List ℕ
rgba r g b a = r ∷ g ∷ b ∷ a ∷ []

abbrev hits : List ℕ → ℕ → ℕ → List ℕ → ℕ → Claim
hits b l q c i = record { block = b; line = l; pixel = q; wanted = c; nearest = index i; exact = index i }

abbrev misses : List ℕ → ℕ → ℕ → List ℕ → ℕ → Claim
misses b l q c i = record { block = b; line = l; pixel = q; wanted = c; nearest = index i; exact = refused 14 }

abbrev refuses : List ℕ → ℕ → ℕ → ℕ → Claim
refuses b l q n = record { block = b; line = l; pixel = q; wanted = rgba 0 0 0 0; nearest = refused n; exact = refused n }

-- block C of document 01: mode 6, red from 0 to 254, all else 0. The indexes 7 and 8, of the weights 30 and 34, draw the reds 119 and 135
abbrev block_c : List ℕ
block_c = 0x40 ∷ 0xC0 ∷ 0x1F ∷ (replicate 5 0 ++ (0x0E ∷ replicate 7 0))

-- mode 5, all else 0: every index draws 0
abbrev black : List ℕ
black = 0x20 ∷ replicate 15 0

-- mode 5, rotation 1: red is stored from 0 to 127, so from 0 to 255, and shown as alpha; all else is 0. The weights 0, 21, 43 and 64 draw
-- the alphas 0, 84, 171 and 255
abbrev rotated5 : List ℕ
rotated5 = 0x60 ∷ 0x80 ∷ 0x3F ∷ replicate 13 0

-- mode 4, red from 0 to 31, so from 0 to 255; all else is 0. With index mode 1 the colours have the eight indexes, which draw the reds
-- 0, 36, 72, 108, 147, 183, 219 and 255, and with index mode 0 the four, which draw 0, 84, 171 and 255
abbrev wide4 : List ℕ
wide4 = 0x90 ∷ 0xE0 ∷ 0x03 ∷ replicate 13 0

abbrev narrow4 : List ℕ
narrow4 = 0x10 ∷ 0xE0 ∷ 0x03 ∷ replicate 13 0

-- mode 1, partition 17, to whose line 1 belong the pixels 1 and 2, but not 0: red of line 1 from 0 to 63, with p so from 0 to 253; all else is
-- 0. The weight 27 of the index 3 draws the red 107
abbrev solid1 : List ℕ
solid1 = 0x46 ∷ 0x00 ∷ 0x00 ∷ 0xFC ∷ replicate 12 0

abbrev pub claims : List Claim
claims =
    -- pixel 0 is an anchor, whose index is stored with three bits: all four count
    hits block_c 0 0 (rgba 135 0 0 0) 8 ∷
    -- 8 away from the indexes 7 and 8: the lower
    misses block_c 0 0 (rgba 127 0 0 0) 7 ∷
    -- all four are as near
    hits black 0 9 (rgba 0 0 0 0) 0 ∷
    misses black 0 9 (rgba 255 255 255 255) 0 ∷
    -- line 0 is measured on green, blue and alpha, line 1 on red
    hits rotated5 0 3 (rgba 9 0 0 171) 2 ∷
    hits rotated5 0 3 (rgba 9 0 0 255) 3 ∷
    -- 1 away; 46 and 41 away
    misses rotated5 0 3 (rgba 0 1 0 171) 2 ∷
    misses rotated5 0 3 (rgba 9 0 0 130) 2 ∷
    hits rotated5 1 3 (rgba 0 9 9 9) 0 ∷
    misses rotated5 1 3 (rgba 171 0 0 171) 0 ∷
    hits wide4 0 5 (rgba 183 0 0 9) 5 ∷
    misses narrow4 0 5 (rgba 183 0 0 9) 2 ∷
    misses wide4 0 5 (rgba 40 0 0 9) 1 ∷
    misses narrow4 0 5 (rgba 40 0 0 9) 0 ∷
    -- the alpha of 255 is drawn by no line
    hits solid1 1 2 (rgba 107 0 0 9) 3 ∷
    -- line 0 has no red
    misses solid1 0 0 (rgba 107 0 0 9) 0 ∷
    -- with the p bits 1 the endpoints of line 1 are 77 85 93 101 and 109 117 125 134, and the weight is 21
    hits block7 1 8 (rgba 88 96 104 112) 1 ∷
    -- index 0 is 0 0 0 29 away, which makes 841, and index 1 is 11 11 11 18 away, which makes 687
    misses block7 1 8 (rgba 77 85 93 130) 1 ∷
    -- each channel counts once, and by its square. Index 0 is 20 0 0 0 away, 400, and index 1 is 9 11 11 11, 444: by fourth powers it would
    -- be nearer
    misses block7 1 8 (rgba 97 85 93 101) 0 ∷
    -- 8 8 5 0 makes 153, and 3 3 6 11 makes 175: with red or green counted twice 217 and 184
    misses block7 1 8 (rgba 85 93 98 101) 0 ∷
    -- 0 5 8 8 makes 153, and 11 6 3 3 makes 175: with blue or alpha counted twice 217 and 184, three times 281 and 193
    misses block7 1 8 (rgba 77 90 101 109) 0 ∷
    -- the first byte is zero; no line 2 or 1; the other line's pixels; no pixel 16
    refuses (replicate 16 0) 9 99 1 ∷
    refuses solid1 2 99 2 ∷
    refuses block_c 1 0 2 ∷
    refuses solid1 0 2 13 ∷
    refuses solid1 1 0 13 ∷
    refuses block_c 0 16 13 ∷
    refuses rotated5 1 4294967295 13 ∷
    []

pub nearest_as_claimed : map (λ c. nearest_index c.block c.line c.pixel c.wanted) claims ≡ map (λ c. c.nearest) claims
unfolding first table table_from digits marks strings2 strings3 subset2 subset3 anchors2 anchors3 mode_row kind_of_mode endpoint_count
    place_at pos width widths trailing number mode_of split_at split_of at_place opened has value_place p_place index_set_of index_place own line_of
    line_bits means_stored means_shown rotated line_at draws eight promoted drawn weight_of weights read_refusal
    nearest_index nearest_refusal in_line index_count least_at distance channel_distance drawn_with with_index squared
nearest_as_claimed = refl

pub exact_as_claimed : map (λ c. exact_index c.block c.line c.pixel c.wanted) claims ≡ map (λ c. c.exact) claims
unfolding first table table_from digits marks strings2 strings3 subset2 subset3 anchors2 anchors3 mode_row kind_of_mode endpoint_count
    place_at pos width widths trailing number mode_of split_at split_of at_place opened has value_place p_place index_set_of index_place own line_of
    line_bits means_stored means_shown rotated line_at draws eight promoted drawn weight_of weights read_refusal
    exact_index exact_refusal nearest_refusal in_line index_count zero_at distance channel_distance drawn_with with_index squared
exact_as_claimed = refl

-- THE PROMISES: of each call an accepted answer, a refused one, and one that it does not admit. The colour 77 85 93 130 has a nearest index,
-- and none that hits: what the one call answers, the other may not
pub record Promised : Type 0 where
  pub finds_nearest : FindsNearest block7 1 8 (rgba 77 85 93 130) (Ok 1)
  pub finds_nearest_not : FindsNearest block7 1 7 (rgba 77 85 93 130) (Err PixelNotInLine)
  pub no_exact_for_nearest : FindsNearest block7 1 8 (rgba 77 85 93 130) (Err NoExactIndex) → ⊥
  pub finds_exact : FindsExact block7 1 8 (rgba 88 96 104 112) (Ok 1)
  pub finds_exact_not : FindsExact block7 1 8 (rgba 77 85 93 130) (Err NoExactIndex)
  pub no_nearest_for_exact : FindsExact block7 1 8 (rgba 77 85 93 130) (Ok 1) → ⊥

pub promises_hold : Promised
unfolding first table table_from digits marks strings2 strings3 subset2 subset3 anchors2 anchors3 mode_row kind_of_mode endpoint_count
    place_at pos width widths trailing number mode_of split_at split_of at_place opened has value_place p_place index_set_of index_place own line_of
    line_bits means_stored means_shown rotated line_at draws eight promoted drawn weight_of weights read_refusal
    nearest_index nearest_refusal in_line index_count least_at distance channel_distance drawn_with with_index squared exact_index exact_refusal zero_at
promises_hold = record {
  finds_nearest = refl;
  finds_nearest_not = refl;
  no_exact_for_nearest = λ e. eqb_of _ _ (ap (λ (f : Answer ℕ). f.refusal) e);
  finds_exact = refl;
  finds_exact_not = refl;
  no_nearest_for_exact = λ e. eqb_of _ _ (ap (λ (f : Answer ℕ). f.refusal) e);
}
