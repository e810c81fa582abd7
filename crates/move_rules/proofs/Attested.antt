-- WHAT HOLDS THE DEFINITIONS OF MOVES: a sheet of 3 by 2 blocks in both forms, written out, and each refusal beside the next ones.
-- Assumes nothing.
use mathlib.Core.Path.{◌≡◌, refl, ap}
use mathlib.Core.List.{List, [], ◌∷◌, ◌++◌, map}
use Prim.Native.Nat.{ℕ, ◌*◌}
use lib.ListN.{get_or, replicate, set}
use Rattle.std.specs.Prelude.{Ok, Err}
use Rattle.refusals.specs.declared.Refusal.TheVariants.{WrongBlockBytes, WrongOutputLength, ColourSpaceStated}
use Rattle.laws.specs.Refusals.{first}
use Rattle.laws.specs.Tables.{table, table_from}
use Rattle.laws.specs.Counting.{count, kept}
use Rattle.laws.proofs.Tests.{eqb_of}
use Rattle.tile_rules.specs.Tiles.{column_at, column_of_slot, in_sheet, number_in_slot, number_in_tiles, row_at, row_of_slot, slot_in, slot_of, slots}
use Rattle.tile_rules.specs.Tiles.{stored_in_tiles, stored_order, tiles}
use Rattle.head_rules.specs.declared.Form.TheVariants.{Rows, Tiles}
use Rattle.head_rules.specs.Colours.{colour_of, colour_refusal}
use Rattle.head_rules.specs.Geometry.{blocks_of, place_of, stored_at}
use Rattle.head_rules.specs.Heads.{colour_in, form_in, form_of, head_bytes, head_refusal_up_to, height_in, of_form_refusal_up_to, read_head_up_to, read_of_form_up_to}
use Rattle.head_rules.specs.Heads.{size_refusal_up_to, tiled_bytes, width_in}
use Rattle.head_rules.specs.Numbers.{groups, raised, read_groups, read_number}
use Rattle.head_rules.specs.Whole.{whole_refusal}
use Rattle.sheet_rules.specs.Pictures.{blocks_as, byte_as}
use Rattle.bcn_format.specs.Block.{block_at}
use Rattle.sheet_rules.specs.Sheets.{block_by}
use Rattle.move_rules.specs.Moving.{MovesTo, move_after, move_refusal, moved_to}

-- no two bytes of the blocks are alike: block n has 16 n, 16 n + 1 and so on; form 2 stores 0 1 3 4 2 5
abbrev block : ℕ → List ℕ
block n = table_from (16 * n) 16 (λ k. k)

abbrev in_rows : List ℕ
in_rows = (0x01 ∷ 0x0C ∷ 0x08 ∷ []) ++ (block 0 ++ block 1 ++ block 2 ++ block 3 ++ block 4 ++ block 5)

abbrev in_tiles : ℕ → List ℕ
in_tiles space = (0x02 ∷ 0x0C ∷ 0x08 ∷ space ∷ []) ++ (block 0 ++ block 1 ++ block 3 ++ block 4 ++ block 2 ++ block 5)

abbrev longer : List ℕ → List ℕ
longer s = s ++ (7 ∷ [])

pub record Moves : Type 0 where
  pub to_tiles : move_after Tiles in_rows (replicate 100 9) ≡ in_tiles 0
  pub to_rows : move_after Rows (in_tiles 0) (replicate 99 9) ≡ in_rows
  pub tiles_answers : map (λ (s : List ℕ). move_refusal Tiles s 99)
      ((0x80 ∷ []) ∷ (0x02 ∷ 0x80 ∷ 0x00 ∷ []) ∷ (0x01 ∷ 0x00 ∷ []) ∷ (0x01 ∷ 0x00 ∷ 0x04 ∷ []) ∷ longer in_rows ∷ in_rows ∷ [])
      ≡ 7 ∷ 8 ∷ 7 ∷ 9 ∷ 10 ∷ 11 ∷ []
  pub rows_answers : map (λ (s : List ℕ). move_refusal Rows s 100)
      ([] ∷ (0x01 ∷ []) ∷ (0x02 ∷ 0x00 ∷ 0x04 ∷ []) ∷ (0x02 ∷ 0x00 ∷ 0x04 ∷ 0x03 ∷ []) ∷ (0x02 ∷ 0x00 ∷ 0x04 ∷ 0x01 ∷ []) ∷
      longer (in_tiles 1) ∷ in_tiles 1 ∷ [])
      ≡ 7 ∷ 8 ∷ 7 ∷ 18 ∷ 9 ∷ 10 ∷ 11 ∷ []
  -- a whole sheet of the form that is moved to
  pub other_form : move_refusal Rows in_rows 99 ∷ move_refusal Tiles (in_tiles 0) 100 ∷ [] ≡ 8 ∷ 8 ∷ []
  pub stated : map (λ (n : ℕ). move_refusal Rows (in_tiles n) 99) (0 ∷ 1 ∷ 2 ∷ []) ≡ 0 ∷ 16 ∷ 16 ∷ []
  pub refused_leaves : move_after Rows (in_tiles 2) (replicate 99 9) ≡ replicate 99 9

pub moves_hold : Moves
unfolding move_after move_refusal moved_to read_of_form_up_to of_form_refusal_up_to whole_refusal first groups read_groups read_number raised read_head_up_to
    head_refusal_up_to
    form_in width_in height_in colour_in size_refusal_up_to head_bytes tiled_bytes blocks_of colour_of colour_refusal form_of stored_in_tiles count slot_of
    slot_in in_sheet column_at column_of_slot row_at row_of_slot tiles blocks_as byte_as block_by block_at place_of stored_at table table_from
    number_in_tiles stored_order kept number_in_slot slots
moves_hold = record {
  to_tiles = refl;
  to_rows = refl;
  tiles_answers = refl;
  rows_answers = refl;
  other_form = refl;
  stated = refl;
  refused_leaves = refl;
}

-- THE PROMISE of a move: an accepted answer both ways, a refused one, and answers and bytes that it does not admit: the blocks left in their
-- order, a sheet of the form that it is moved to, another answer, an output that a refused move touched
abbrev unmoved : List ℕ
unmoved = (0x02 ∷ 0x0C ∷ 0x08 ∷ 0x00 ∷ []) ++ (block 0 ++ block 1 ++ block 2 ++ block 3 ++ block 4 ++ block 5)

-- the head of 16,384 by 16,384 with no block behind it: 10, and not 9
abbrev largest : List ℕ
largest = 0x80 ∷ 0x80 ∷ 0x01 ∷ 0x80 ∷ 0x80 ∷ 0x01 ∷ []

abbrev nines : ℕ → List ℕ
nines n = replicate n 9

pub record Promised : Type 0 where
  pub moves_to_tiles : MovesTo Tiles in_rows (nines 100) (Ok tt) (in_tiles 0)
  pub moves_to_rows : MovesTo Rows (in_tiles 0) (nines 99) (Ok tt) in_rows
  pub moves_not : MovesTo Rows (in_tiles 2) (nines 99) (Err ColourSpaceStated) (nines 99)
  pub moves_largest : MovesTo Tiles (0x01 ∷ largest) [] (Err WrongBlockBytes) [] × MovesTo Rows (0x02 ∷ largest ++ (0 ∷ [])) [] (Err WrongBlockBytes) []
  pub no_order_kept : MovesTo Tiles in_rows (nines 100) (Ok tt) unmoved → ⊥
  pub no_colours_stated : MovesTo Tiles in_rows (nines 100) (Ok tt) (in_tiles 1) → ⊥
  pub no_other_answer : MovesTo Tiles in_rows (nines 100) (Err WrongOutputLength) (in_tiles 0) → ⊥
  pub no_form_exchanged : MovesTo Rows in_rows (nines 100) (Ok tt) (nines 100) → ⊥
  pub no_colours_lost : MovesTo Rows (in_tiles 2) (nines 99) (Ok tt) (nines 99) → ⊥
  pub no_output_touched : MovesTo Rows (in_tiles 2) (nines 99) (Err ColourSpaceStated) (set (nines 99) 98 0) → ⊥

pub promise_holds : Promised
unfolding whole_refusal move_after move_refusal moved_to read_of_form_up_to of_form_refusal_up_to first groups read_groups read_number raised
    read_head_up_to head_refusal_up_to
    form_in width_in height_in colour_in size_refusal_up_to head_bytes tiled_bytes blocks_of colour_of colour_refusal form_of stored_in_tiles count slot_of
    slot_in in_sheet column_at column_of_slot row_at row_of_slot tiles blocks_as byte_as block_by block_at place_of stored_at table table_from
    number_in_tiles stored_order kept number_in_slot slots
promise_holds = record {
  moves_to_tiles = (refl, refl);
  moves_to_rows = (refl, refl);
  moves_not = (refl, refl);
  moves_largest = ((refl, refl), (refl, refl));
  no_order_kept = λ e. eqb_of _ _ (ap (λ (l : List ℕ). get_or l 36 0) e.1);
  no_colours_stated = λ e. eqb_of _ _ (ap (λ (l : List ℕ). get_or l 3 0) e.1);
  no_other_answer = λ e. eqb_of _ _ e.0;
  no_form_exchanged = λ e. eqb_of _ _ e.0;
  no_colours_lost = λ e. eqb_of _ _ e.0;
  no_output_touched = λ e. eqb_of _ _ (ap (λ (l : List ℕ). get_or l 98 0) e.1);
}
