-- WHAT HOLDS THE DEFINITION OF TILE ORDER: slots with their columns and rows, and the order of some sizes, written out.
-- Assumes nothing.
use mathlib.Core.Path.{◌≡◌, refl}
use mathlib.Core.List.{List, [], ◌∷◌, map}
use Prim.Native.Nat.{ℕ}
use Rattle.laws.specs.Counting.{count, kept}
use Rattle.tile_rules.specs.Tiles.{column_at, column_of_slot, in_sheet, number_in_slot, number_in_tiles, row_at, row_of_slot, slot_in, slot_of, slots}
use Rattle.tile_rules.specs.Tiles.{stored_in_tiles, stored_order, tiles}

-- 9 by 9 blocks: a whole tile; a column, a row and a corner of tiles that are cut off
abbrev order_9_9 : List ℕ
order_9_9 =
    0 ∷ 1 ∷ 9 ∷ 10 ∷ 2 ∷ 3 ∷ 11 ∷ 12 ∷ 18 ∷ 19 ∷ 27 ∷ 28 ∷ 20 ∷ 21 ∷ 29 ∷ 30 ∷
    4 ∷ 5 ∷ 13 ∷ 14 ∷ 6 ∷ 7 ∷ 15 ∷ 16 ∷ 22 ∷ 23 ∷ 31 ∷ 32 ∷ 24 ∷ 25 ∷ 33 ∷ 34 ∷
    36 ∷ 37 ∷ 45 ∷ 46 ∷ 38 ∷ 39 ∷ 47 ∷ 48 ∷ 54 ∷ 55 ∷ 63 ∷ 64 ∷ 56 ∷ 57 ∷ 65 ∷ 66 ∷
    40 ∷ 41 ∷ 49 ∷ 50 ∷ 42 ∷ 43 ∷ 51 ∷ 52 ∷ 58 ∷ 59 ∷ 67 ∷ 68 ∷ 60 ∷ 61 ∷ 69 ∷ 70 ∷
    8 ∷ 17 ∷ 26 ∷ 35 ∷ 44 ∷ 53 ∷ 62 ∷ 71 ∷
    72 ∷ 73 ∷ 74 ∷ 75 ∷ 76 ∷ 77 ∷ 78 ∷ 79 ∷
    80 ∷ []

-- 17 by 5: two tiles of five rows, and five blocks of a third
abbrev order_17_5 : List ℕ
order_17_5 =
    0 ∷ 1 ∷ 17 ∷ 18 ∷ 2 ∷ 3 ∷ 19 ∷ 20 ∷ 34 ∷ 35 ∷ 51 ∷ 52 ∷ 36 ∷ 37 ∷ 53 ∷ 54 ∷
    4 ∷ 5 ∷ 21 ∷ 22 ∷ 6 ∷ 7 ∷ 23 ∷ 24 ∷ 38 ∷ 39 ∷ 55 ∷ 56 ∷ 40 ∷ 41 ∷ 57 ∷ 58 ∷
    68 ∷ 69 ∷ 70 ∷ 71 ∷ 72 ∷ 73 ∷ 74 ∷ 75 ∷
    8 ∷ 9 ∷ 25 ∷ 26 ∷ 10 ∷ 11 ∷ 27 ∷ 28 ∷ 42 ∷ 43 ∷ 59 ∷ 60 ∷ 44 ∷ 45 ∷ 61 ∷ 62 ∷
    12 ∷ 13 ∷ 29 ∷ 30 ∷ 14 ∷ 15 ∷ 31 ∷ 32 ∷ 46 ∷ 47 ∷ 63 ∷ 64 ∷ 48 ∷ 49 ∷ 65 ∷ 66 ∷
    76 ∷ 77 ∷ 78 ∷ 79 ∷ 80 ∷ 81 ∷ 82 ∷ 83 ∷
    16 ∷ 33 ∷ 50 ∷ 67 ∷ 84 ∷ []

pub record Orders : Type 0 where
  -- column 3 is 011 and row 5 is 101: 100111 is slot 39
  pub woven : slot_in 3 5 ∷ slot_in 5 3 ∷ slot_in 1 0 ∷ slot_in 0 1 ∷ slot_in 7 7 ∷ [] ≡ 39 ∷ 27 ∷ 1 ∷ 2 ∷ 63 ∷ []
  pub columns : map column_of_slot (0 ∷ 1 ∷ 2 ∷ 3 ∷ 4 ∷ 8 ∷ 16 ∷ 32 ∷ 39 ∷ 63 ∷ []) ≡ 0 ∷ 1 ∷ 0 ∷ 1 ∷ 2 ∷ 0 ∷ 4 ∷ 0 ∷ 3 ∷ 7 ∷ []
  pub rows : map row_of_slot (0 ∷ 1 ∷ 2 ∷ 3 ∷ 4 ∷ 8 ∷ 16 ∷ 32 ∷ 39 ∷ 63 ∷ []) ≡ 0 ∷ 0 ∷ 1 ∷ 1 ∷ 0 ∷ 2 ∷ 0 ∷ 4 ∷ 5 ∷ 7 ∷ []
  pub tiles_across : map tiles (1 ∷ 8 ∷ 9 ∷ 4096 ∷ []) ≡ 1 ∷ 1 ∷ 2 ∷ 512 ∷ []
  pub order_1_1 : stored_order 1 1 ≡ 0 ∷ []
  pub order_3_2 : stored_order 3 2 ≡ 0 ∷ 1 ∷ 3 ∷ 4 ∷ 2 ∷ 5 ∷ []
  pub order_9 : stored_order 9 9 ≡ order_9_9
  pub order_17 : stored_order 17 5 ≡ order_17_5
  pub stored : map (stored_in_tiles 3 2) (0 ∷ 1 ∷ 2 ∷ 3 ∷ 4 ∷ 5 ∷ []) ≡ 0 ∷ 1 ∷ 4 ∷ 2 ∷ 3 ∷ 5 ∷ []
  pub numbers : map (number_in_tiles 3 2) (0 ∷ 1 ∷ 2 ∷ 3 ∷ 4 ∷ 5 ∷ []) ≡ 0 ∷ 1 ∷ 3 ∷ 4 ∷ 2 ∷ 5 ∷ []
  -- of 9 by 9, the first block of each tile, and a block within each
  pub stored_9 : map (stored_in_tiles 9 9) (0 ∷ 8 ∷ 72 ∷ 80 ∷ 48 ∷ 35 ∷ 77 ∷ []) ≡ 0 ∷ 64 ∷ 72 ∷ 80 ∷ 39 ∷ 67 ∷ 77 ∷ []

pub orders_hold : Orders
unfolding stored_order stored_in_tiles number_in_tiles count kept slot_of slot_in slots tiles in_sheet number_in_slot column_at row_at column_of_slot row_of_slot
orders_hold = record {
  woven = refl;
  columns = refl;
  rows = refl;
  tiles_across = refl;
  order_1_1 = refl;
  order_3_2 = refl;
  order_9 = refl;
  order_17 = refl;
  stored = refl;
  numbers = refl;
  stored_9 = refl;
}
