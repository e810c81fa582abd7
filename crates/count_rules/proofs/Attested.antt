-- WHAT HOLDS THE DEFINITIONS OF COUNTS: sheets counted, each ground of 19 beside a call that it doesn't touch, the refusals in their order, and
-- what is handed back, written out from document 02.
-- Assumes nothing.
use mathlib.Core.Path.{◌≡◌, refl, ap}
use mathlib.Core.List.{List, [], ◌∷◌, ◌++◌, map}
use Prim.Native.Nat.{ℕ}
use lib.ListN.{get_or, replicate}
use Rattle.laws.specs.Refusals.{first}
use Rattle.laws.specs.Tables.{implies, over, table, table_from}
use Rattle.laws.proofs.Tests.{eqb_of}
use Rattle.bcn_format.specs.Block.{block_at, bytes_of, number, put_block, trailing}
use Rattle.bcn_format.specs.Drawing.{drawn, promoted, weight_of, weights}
use Rattle.bcn_format.specs.Partitions.{anchors2, anchors3, digits, marks, strings2, strings3, subset2, subset3}
use Rattle.bc7_format.specs.Modes.{mode_of, endpoint_count, kind_of_mode, mode_row}
use Rattle.bc7_format.specs.Lines.{eight, anchor_of, index_set_of, has, index_place, laid, line_at, line_bits, line_of, means_stored, own, p_place, pixel}
use Rattle.bc7_format.specs.Lines.{rotated, shown, turned, value_place, with_line}
use Rattle.bc7_format.specs.Places.{at_place, block_of, list_of, opened, place_at, pos, width, widths}
use Rattle.bc7_format.specs.Splits.{split_at, split_of}
use Rattle.laws.specs.Counting.{count, sum}
use Rattle.tile_rules.specs.Tiles.{column_at, column_of_slot, in_sheet, row_at, row_of_slot, slot_in, slot_of, stored_in_tiles, tiles}
use Rattle.head_rules.specs.Colours.{colour_of, colour_refusal}
use Rattle.head_rules.specs.Geometry.{blocks_of, place_of, stored_at}
use Rattle.head_rules.specs.Heads.{colour_in, form_in, form_of, head_refusal_up_to, height_in, read_head, read_head_up_to, size_refusal_up_to, width_in}
use Rattle.head_rules.specs.Whole.{whole_refusal}
use Rattle.head_rules.specs.Numbers.{raised, read_groups, read_number}
use Rattle.line_rules.specs.declared.Replacement.{Replacement}
use Rattle.refusals.specs.Answers.{Answer}
use Rattle.line_rules.specs.Replace.{after, index_fits, line_fits, line_given, oriented, own_width, p_fits, put, refusal, refusal_in, replaced, value_fits}
use Rattle.opacity_rules.specs.Opacity.{is_visible, opaque, opaque_in, passes}
use Rattle.sheet_rules.specs.Sheets.{block_by, find_refusal, replaced_in}
use Rattle.count_rules.specs.declared.Counts.{Counts}
use Rattle.count_rules.specs.Counts.{Counted}
use Rattle.count_rules.specs.Counts.{CountsSheet, counted_of, counts_below, has_mode, is_opaque}
use Rattle.count_rules.specs.Keeping.{ReplacesBlockCounted, ReplacesLineCounted}
use Rattle.count_rules.specs.Keeping.{block_made, false_of, kept_answer, kept_counts, kept_refusal, kept_sheet, of_all_modes, recounted_as}

-- mode 6 with the alphas 127 and 127: 255 everywhere with the p bits 1 and 1, 254 with 0 and 0
abbrev solid : List ℕ
solid = 0x40 ∷ (replicate 5 0 ++ (0xFE ∷ 0xFF ∷ 0x01 ∷ replicate 7 0))

abbrev nearly : List ℕ
nearly = 0x40 ∷ (replicate 5 0 ++ (0xFE ∷ 0x7F ∷ replicate 8 0))

-- alpha 255 but for pixel 15, in column 3 and row 3
abbrev corner : List ℕ
corner = 0x40 ∷ (replicate 5 0 ++ (0xFE ∷ 0x80 ∷ (replicate 7 0 ++ (0xF0 ∷ []))))

-- mode 5 with alpha 0 (document 01's block D), modes 1 and 3, whose alpha is 255, and a reserved block
abbrev block_d : List ℕ
block_d = 0x60 ∷ (replicate 5 0 ++ (0xFC ∷ 0x03 ∷ replicate 8 0))

abbrev mode1 : List ℕ
mode1 = 0x02 ∷ replicate 15 0

abbrev mode3 : List ℕ
mode3 = 0x08 ∷ replicate 15 0

abbrev reserved : List ℕ
reserved = replicate 16 0

-- counts: the nine modes in their order, and the opaque
abbrev counts : List ℕ → ℕ → Counts
counts modes o = record { modes = modes; opaque = o }

abbrev zeros : Counts
zeros = counts (0 ∷ 0 ∷ 0 ∷ 0 ∷ 0 ∷ 0 ∷ 0 ∷ 0 ∷ 0 ∷ []) 0

abbrev answers : ℕ → Counts → Counted
answers r n = record { refusal = r; counts = n }

-- document 01's sheet of 5 by 4; and one with a given second block, of which one column is shown
abbrev five_by_four : List ℕ → List ℕ → List ℕ
five_by_four left right = (0x01 ∷ 0x05 ∷ 0x04 ∷ []) ++ left ++ right

-- a sheet of 9 by 8 in both forms: three columns of blocks, of which the third shows one column, and two rows; form 2 stores 0 1 3 4 2 5
abbrev in_rows : List ℕ → List ℕ
in_rows block2 = (0x01 ∷ 0x09 ∷ 0x08 ∷ []) ++ mode3 ++ solid ++ block2 ++ reserved ++ nearly ++ block_d

abbrev in_tiles : List ℕ → List ℕ
in_tiles block2 = (0x02 ∷ 0x09 ∷ 0x08 ∷ 0x01 ∷ []) ++ mode3 ++ solid ++ reserved ++ nearly ++ block2 ++ block_d

abbrev of_nine : Counts
of_nine = counts (0 ∷ 0 ∷ 0 ∷ 1 ∷ 0 ∷ 1 ∷ 3 ∷ 0 ∷ 1 ∷ []) 3

-- a sheet and what counting answers
pub record Count : Type 0 where
  pub sheet : List ℕ
  pub answer : Counted

abbrev gives : List ℕ → ℕ → Counts → Count
gives s r n = record { sheet = s; answer = answers r n }

-- each is refused for what the next ones are refused for too
abbrev pub count_claims : List Count
count_claims =
    gives (five_by_four block_d reserved) 0 (counts (0 ∷ 0 ∷ 0 ∷ 0 ∷ 0 ∷ 1 ∷ 0 ∷ 0 ∷ 1 ∷ []) 0) ∷
    gives (five_by_four solid corner) 0 (counts (0 ∷ 0 ∷ 0 ∷ 0 ∷ 0 ∷ 0 ∷ 2 ∷ 0 ∷ 0 ∷ []) 2) ∷
    gives (five_by_four corner solid) 0 (counts (0 ∷ 0 ∷ 0 ∷ 0 ∷ 0 ∷ 0 ∷ 2 ∷ 0 ∷ 0 ∷ []) 1) ∷
    gives (in_rows corner) 0 of_nine ∷
    gives (in_tiles corner) 0 of_nine ∷
    gives (0x02 ∷ 0x00 ∷ 0x08 ∷ []) 7 zeros ∷
    gives (0x03 ∷ 0x00 ∷ 0x08 ∷ 0x03 ∷ []) 8 zeros ∷
    gives (0x02 ∷ 0x00 ∷ 0x08 ∷ 0x03 ∷ []) 18 zeros ∷
    gives (0x02 ∷ 0x00 ∷ 0x08 ∷ 0x02 ∷ []) 9 zeros ∷
    gives (in_rows corner ++ (0x00 ∷ [])) 10 zeros ∷
    []

-- 19: BLOCK 0 IS OPAQUE AND OF MODE 6, BLOCK 1 NEITHER, OF MODE 5. What naming block 0 and what naming block 1 is answered, with these counts of
-- mode 5, mode 6, mode 7 and opaque blocks
abbrev pair : List ℕ
pair = five_by_four solid block_d

abbrev with : ℕ → ℕ → ℕ → ℕ → Counts
with five six seven o = counts (0 ∷ 0 ∷ 0 ∷ 0 ∷ 0 ∷ five ∷ six ∷ seven ∷ 0 ∷ []) o

pub record Named : Type 0 where
  pub came : Counts
  pub first_block : ℕ
  pub second_block : ℕ

abbrev named : Counts → ℕ → ℕ → Named
named n a b = record { came = n; first_block = a; second_block = b }

abbrev pub false_claims : List Named
false_claims =
    -- true
    named (with 1 1 0 1) 0 0 ∷
    -- the nine don't sum to two, also where the sum is two more than 2^32
    named (with 1 2 0 1) 19 19 ∷
    named (with 1 0 0 1) 19 19 ∷
    named (with 1 4294967295 2 1) 19 19 ∷
    -- they do, but none is of the block's mode
    named (with 0 2 0 1) 0 19 ∷
    named (with 2 0 0 1) 19 0 ∷
    named (with 0 1 1 1) 0 19 ∷
    -- none is opaque; all are, or more than all
    named (with 1 1 0 0) 19 0 ∷
    named (with 1 1 0 2) 0 19 ∷
    named (with 1 1 0 4294967295) 0 19 ∷
    []

-- A CALL: sheet and counts that come, the number of a block, what is answered, and the sheet afterwards
pub record Kept : Type 0 where
  pub before : List ℕ
  pub came : Counts
  pub block : ℕ
  pub answer : Counted
  pub left : List ℕ

-- a whole block is replaced by the block given
pub record Whole : Type 0 where
  pub call : Kept
  pub new : List ℕ

abbrev whole : List ℕ → Counts → ℕ → List ℕ → List ℕ → Counts → Whole
whole s n b new t m = record { call = record { before = s; came = n; block = b; answer = answers 0 m; left = t }; new = new }

abbrev no_whole : List ℕ → Counts → ℕ → ℕ → Whole
no_whole s n b r = record { call = record { before = s; came = n; block = b; answer = answers r n; left = s }; new = solid }

abbrev pub whole_claims : List Whole
whole_claims =
    -- a reserved block is repaired; the counts follow its mode, and its opacity by what is shown of it
    whole (five_by_four block_d reserved) (counts (0 ∷ 0 ∷ 0 ∷ 0 ∷ 0 ∷ 1 ∷ 0 ∷ 0 ∷ 1 ∷ []) 0) 1 corner
    (five_by_four block_d corner) (counts (0 ∷ 0 ∷ 0 ∷ 0 ∷ 0 ∷ 1 ∷ 1 ∷ 0 ∷ 0 ∷ []) 1) ∷
    whole pair (with 1 1 0 1) 0 corner (five_by_four corner block_d) (with 1 1 0 0) ∷
    whole pair (with 1 1 0 1) 0 reserved (five_by_four reserved block_d) (counts (0 ∷ 0 ∷ 0 ∷ 0 ∷ 0 ∷ 1 ∷ 0 ∷ 0 ∷ 1 ∷ []) 0) ∷
    whole pair (with 1 1 0 1) 0 solid pair (with 1 1 0 1) ∷
    -- in form 2 block 2 is stored fifth
    whole (in_tiles corner) of_nine 2 block_d (in_tiles block_d) (counts (0 ∷ 0 ∷ 0 ∷ 1 ∷ 0 ∷ 2 ∷ 2 ∷ 0 ∷ 1 ∷ []) 2) ∷
    -- what is false and not asked about is carried along
    whole pair (with 0 1 1 9) 0 block_d (five_by_four block_d block_d) (with 1 0 1 8) ∷
    -- a refused call hands back what came, whatever it is
    no_whole [] (with 9 9 9 9) 2 7 ∷
    no_whole (0x03 ∷ 0x00 ∷ []) (with 9 9 9 9) 2 8 ∷
    no_whole (0x01 ∷ 0x00 ∷ 0x04 ∷ []) (with 9 9 9 9) 2 9 ∷
    no_whole (pair ++ (0x00 ∷ [])) (with 9 9 9 9) 2 10 ∷
    no_whole pair (with 9 9 9 9) 2 12 ∷
    no_whole pair (with 9 9 9 9) 1 19 ∷
    []

-- a line is replaced: three blocks, reserved, of mode 1 and of mode 6
abbrev three : List ℕ → List ℕ
three block2 = (0x01 ∷ 0x0C ∷ 0x04 ∷ []) ++ reserved ++ mode1 ++ block2

abbrev of_three : ℕ → Counts
of_three o = counts (0 ∷ 1 ∷ 0 ∷ 0 ∷ 0 ∷ 0 ∷ 1 ∷ 0 ∷ 1 ∷ []) o

pub record Line : Type 0 where
  pub call : Kept
  pub of_block : ℕ
  pub given : Replacement

abbrev given : ℕ → ℕ → ℕ → Replacement
given alpha p0 p1 = record { endpoints = 0 ∷ 0 ∷ 0 ∷ alpha ∷ 0 ∷ 0 ∷ 0 ∷ alpha ∷ []; p = p0 ∷ p1 ∷ []; indexes = replicate 16 0 }

abbrev line : List ℕ → Counts → ℕ → ℕ → Replacement → List ℕ → Counts → Line
line s n b l g t m = record { call = record { before = s; came = n; block = b; answer = answers 0 m; left = t }; of_block = l; given = g }

abbrev no_line : List ℕ → Counts → ℕ → ℕ → Replacement → ℕ → Line
no_line s n b l g r = record { call = record { before = s; came = n; block = b; answer = answers r n; left = s }; of_block = l; given = g }

abbrev pub line_claims : List Line
line_claims =
    -- the p bits decide whether the block is opaque
    line (three nearly) (of_three 1) 2 0 (given 127 1 1) (three solid) (of_three 2) ∷
    line (three solid) (of_three 2) 2 0 (given 127 0 0) (three nearly) (of_three 1) ∷
    line (three solid) (of_three 2) 1 0 (given 0 0 0) (three solid) (of_three 2) ∷
    -- each is refused for what the next ones are refused for too
    no_line (three solid ++ (0x00 ∷ [])) (with 9 9 9 9) 3 9 (given 127 0 1) 10 ∷
    no_line (three solid) (with 9 9 9 9) 3 9 (given 127 0 1) 12 ∷
    no_line (three solid) (with 9 9 9 9) 0 9 (given 127 0 1) 19 ∷
    no_line (three solid) (of_three 2) 0 9 (given 127 0 1) 1 ∷
    no_line (three solid) (of_three 2) 1 2 (given 127 0 1) 2 ∷
    no_line (three solid) (of_three 2) 1 0 (given 127 0 1) 3 ∷
    no_line (three solid) (of_three 2) 1 0 (given 0 0 1) 4 ∷
    []

-- what a call is answered, and the sheet that it leaves; `made` is the block's own answer
abbrev answered : Kept → Answer (List ℕ) → Counted
answered k made = kept_answer (read_head k.before) k.before k.came k.block made

abbrev leaves : Kept → Answer (List ℕ) → List ℕ
leaves k made = kept_sheet (read_head k.before) k.before k.came k.block made

abbrev line_made : Line → Answer (List ℕ)
line_made c = let k = c.call in replaced_in (read_head k.before) k.before k.block c.of_block c.given

pub record Claims : Type 0 where
  pub counting : map (λ c. counted_of (read_head c.sheet) c.sheet) count_claims ≡ map (λ c. c.answer) count_claims
  pub false_first : map (λ c. kept_refusal (read_head pair) pair c.came 0 (block_made solid)) false_claims ≡ map (λ c. c.first_block) false_claims
  pub false_second : map (λ c. kept_refusal (read_head pair) pair c.came 1 (block_made solid)) false_claims ≡ map (λ c. c.second_block) false_claims
  pub wholes : map (λ c. answered c.call (block_made c.new)) whole_claims ≡ map (λ c. c.call.answer) whole_claims
  pub wholes_left : map (λ c. leaves c.call (block_made c.new)) whole_claims ≡ map (λ c. c.call.left) whole_claims
  pub lines : map (λ c. answered c.call (line_made c)) line_claims ≡ map (λ c. c.call.answer) line_claims
  pub lines_left : map (λ c. leaves c.call (line_made c)) line_claims ≡ map (λ c. c.call.left) line_claims

pub counts_as_claimed : Claims
unfolding implies over table table_from digits marks strings2 strings3 subset2 subset3 anchors2 anchors3 weights weight_of drawn promoted
    eight mode_row kind_of_mode endpoint_count place_at pos width widths trailing number mode_of split_at split_of at_place opened has value_place
    p_place index_set_of index_place own line_of line_bits means_stored rotated line_at shown pixel block_at block_by blocks_of find_refusal place_of
    put_block replaced_in first size_refusal_up_to read_head_up_to head_refusal_up_to form_in width_in height_in read_number read_groups raised replaced
    after refusal refusal_in line_fits value_fits p_fits index_fits own_width line_given put oriented with_line laid turned anchor_of block_of list_of
    bytes_of colour_in form_of colour_of colour_refusal stored_at stored_in_tiles count sum slot_of slot_in in_sheet column_at column_of_slot row_at
    row_of_slot tiles is_visible passes opaque opaque_in has_mode is_opaque counts_below whole_refusal counted_of of_all_modes false_of recounted_as
    kept_refusal kept_sheet kept_counts kept_answer
counts_as_claimed = record {
  counting = refl;
  false_first = refl;
  false_second = refl;
  wholes = refl;
  wholes_left = refl;
  lines = refl;
  lines_left = refl;
}

-- THE PROMISES: of each call an accepted answer, a refused one, and answers, counts and bytes that it does not admit: other counts, those that came
-- where others are due, others where those that came are, the sheet as it was, a neighbour's bytes, another number
abbrev cut : List ℕ
cut = in_rows corner ++ (0x00 ∷ [])

pub record Promised : Type 0 where
  pub counts_sheet : CountsSheet (in_tiles corner) (answers 0 of_nine)
  pub counts_sheet_not : CountsSheet cut (answers 10 zeros)
  pub no_other_counts : CountsSheet (in_tiles corner) (answers 0 zeros) → ⊥
  pub no_sheet_let_through : CountsSheet cut (answers 0 zeros) → ⊥
  pub no_counts_where_refused : CountsSheet cut (answers 10 of_nine) → ⊥
  pub replaces_line : ReplacesLineCounted (three nearly) (of_three 1) 2 0 (given 127 1 1) (answers 0 (of_three 2)) (three solid)
  pub replaces_line_not : ReplacesLineCounted (three solid) (of_three 2) 0 9 (given 127 0 1) (answers 1 (of_three 2)) (three solid)
  pub no_counts_as_they_came : ReplacesLineCounted (three nearly) (of_three 1) 2 0 (given 127 1 1) (answers 0 (of_three 1)) (three solid) → ⊥
  pub no_line_lost : ReplacesLineCounted (three nearly) (of_three 1) 2 0 (given 127 1 1) (answers 0 (of_three 2)) (three nearly) → ⊥
  pub no_counts_changed : ReplacesLineCounted (three solid) (of_three 2) 0 9 (given 127 0 1) (answers 1 (of_three 1)) (three solid) → ⊥
  pub replaces_block : ReplacesBlockCounted pair (with 1 1 0 1) 0 corner (answers 0 (with 1 1 0 0)) (five_by_four corner block_d)
  pub replaces_block_not : ReplacesBlockCounted pair (with 9 9 9 9) 1 solid (answers 19 (with 9 9 9 9)) pair
  pub no_neighbour : ReplacesBlockCounted pair (with 1 1 0 1) 0 corner (answers 0 (with 1 1 0 0)) (five_by_four corner solid) → ⊥
  pub no_other_number : ReplacesBlockCounted pair (with 9 9 9 9) 1 solid (answers 12 (with 9 9 9 9)) pair → ⊥

pub promises_hold : Promised
unfolding implies over table table_from digits marks strings2 strings3 subset2 subset3 anchors2 anchors3 weights weight_of drawn promoted
    eight mode_row kind_of_mode endpoint_count place_at pos width widths trailing number mode_of split_at split_of at_place opened has value_place
    p_place index_set_of index_place own line_of line_bits means_stored rotated line_at shown pixel block_at block_by blocks_of find_refusal place_of
    put_block replaced_in first size_refusal_up_to read_head_up_to head_refusal_up_to form_in width_in height_in read_number read_groups raised replaced
    after refusal refusal_in line_fits value_fits p_fits index_fits own_width line_given put oriented with_line laid turned anchor_of block_of list_of
    bytes_of colour_in form_of colour_of colour_refusal stored_at stored_in_tiles count sum slot_of slot_in in_sheet column_at column_of_slot row_at
    row_of_slot tiles is_visible passes opaque opaque_in has_mode is_opaque counts_below whole_refusal counted_of of_all_modes false_of recounted_as
    kept_refusal kept_sheet kept_counts kept_answer
promises_hold = record {
  counts_sheet = refl;
  counts_sheet_not = refl;
  no_other_counts = λ e. eqb_of _ _ (ap (λ (a : Counted). a.counts.opaque) e);
  no_sheet_let_through = λ e. eqb_of _ _ (ap (λ (a : Counted). a.refusal) e);
  no_counts_where_refused = λ e. eqb_of _ _ (ap (λ (a : Counted). a.counts.opaque) e);
  replaces_line = (refl, refl);
  replaces_line_not = (refl, refl);
  no_counts_as_they_came = λ e. eqb_of _ _ (ap (λ (a : Counted). a.counts.opaque) e.0);
  no_line_lost = λ e. eqb_of _ _ (ap (λ (l : List ℕ). get_or l 42 0) e.1);
  no_counts_changed = λ e. eqb_of _ _ (ap (λ (a : Counted). a.counts.opaque) e.0);
  replaces_block = (refl, refl);
  replaces_block_not = (refl, refl);
  no_neighbour = λ e. eqb_of _ _ (ap (λ (l : List ℕ). get_or l 19 0) e.1);
  no_other_number = λ e. eqb_of _ _ (ap (λ (a : Counted). a.refusal) e.0);
}
