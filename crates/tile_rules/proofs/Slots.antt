-- Each block of a sheet has exactly one slot, and each slot within the sheet one block.
-- Assumes nothing.
use mathlib.Core.Path.{◌≡◌, ◌∙◌}
use mathlib.Core.Bool.{true}
use Prim.Native.Nat.{ℕ, ◌+◌, ◌*◌, ◌/◌, ◌%◌, ◌<◌}
use native.Mathlib.Nat.{div-add-mod', div-lt_iff_lt-mul, mod-lt}
use native.Mathlib.Omega.{arith}
use lib.Arith.{digits_div, digits_lt, digits_mod}
use lib.Dec.{ltb}
use borrow.Author.Tests.{lt-ltb, ltb-true}
use Rattle.laws.proofs.Tests.{both_true}
use Rattle.tile_rules.specs.Tiles.{column_at, column_of_slot, in_sheet, number_in_slot, slot_in, row_at, row_of_slot, slot_of, slots, tiles}
use Rattle.tile_rules.proofs.InTile.{column_lt, column_of_slot_is, slot_small, slot_parted, row_lt, row_of_slot_is}

pub tiles_pos : (c : ℕ) → 0 < c → 0 < tiles c
unfolding tiles
tiles_pos c h = omega arith

pub tiles_reach : (c x : ℕ) → x < c → x / 8 < tiles c
unfolding tiles
tiles_reach c x h = omega arith

-- slot p of the tile in column tc and row tr of tiles
module _ (c tr tc p : ℕ) (ht : tc < tiles c) (hp : p < 64) where
  tile_is : ((tr * tiles c + tc) * 64 + p) / 64 ≡ tr * tiles c + tc
  tile_is = digits_div (tr * tiles c + tc) hp

  in_it : ((tr * tiles c + tc) * 64 + p) % 64 ≡ p
  in_it = digits_mod (tr * tiles c + tc) hp

  pub column_at_is : column_at c ((tr * tiles c + tc) * 64 + p) ≡ 8 * tc + column_of_slot p
  unfolding column_at
  column_at_is = rw (tile_is, in_it, digits_mod tr ht)

  pub row_at_is : row_at c ((tr * tiles c + tc) * 64 + p) ≡ 8 * tr + row_of_slot p
  unfolding row_at
  row_at_is = rw (tile_is, in_it, digits_div tr ht)

pub in_sheet_is : (c r s : ℕ) → column_at c s < c → row_at c s < r → in_sheet c r s ≡ true
unfolding in_sheet
in_sheet_is c r s hx hy = rw (lt-ltb (column_at c s) c hx, lt-ltb (row_at c s) r hy)

pub sheet_in : (c r s : ℕ) → in_sheet c r s ≡ true → (column_at c s < c) × (row_at c s < r)
unfolding in_sheet
sheet_in c r s e =
    let t = both_true (ltb (column_at c s) c) (ltb (row_at c s) r) e in
    (ltb-true (column_at c s) c t.0, ltb-true (row_at c s) r t.1)

-- a block's slot
module _ (c b : ℕ) (hc : 0 < c) where
  slot_column : column_at c (slot_of c b) ≡ b % c
  unfolding slot_of
  slot_column =
      column_at_is c (b / c / 8) (b % c / 8) (slot_in (b % c % 8) (b / c % 8)) (tiles_reach c (b % c) (mod-lt b hc)) (slot_small (b % c % 8) (b / c % 8))
      ∙ omega (arith, column_of_slot_is (b % c % 8) (b / c % 8) (omega arith) (omega arith))

  slot_row : row_at c (slot_of c b) ≡ b / c
  unfolding slot_of
  slot_row =
      row_at_is c (b / c / 8) (b % c / 8) (slot_in (b % c % 8) (b / c % 8)) (tiles_reach c (b % c) (mod-lt b hc)) (slot_small (b % c % 8) (b / c % 8))
      ∙ omega (arith, row_of_slot_is (b % c % 8) (b / c % 8) (omega arith) (omega arith))

  pub number_of_slot : number_in_slot c (slot_of c b) ≡ b
  unfolding number_in_slot
  number_of_slot = rw (slot_column, slot_row) (div-add-mod' b c)

  pub slot_in_is : (r : ℕ) → b < r * c → in_sheet c r (slot_of c b) ≡ true
  slot_in_is r h =
      in_sheet_is c r (slot_of c b) (rw slot_column (mod-lt b hc)) (rw slot_row ((div-lt_iff_lt-mul {k = c} {x = b} {y = r} hc).1 h))

  pub slot_lt : (r : ℕ) → b < r * c → slot_of c b < slots c r
  unfolding slot_of slots
  slot_lt r h =
      digits_lt (digits_lt (tiles_reach r (b / c) ((div-lt_iff_lt-mul {k = c} {x = b} {y = r} hc).1 h)) (tiles_reach c (b % c) (mod-lt b hc)))
      (slot_small (b % c % 8) (b / c % 8))

-- a slot's block
module _ (c r s : ℕ) (h : in_sheet c r s ≡ true) where
  wide : column_at c s < c
  wide = (sheet_in c r s h).0

  pub number_lt : number_in_slot c s < r * c
  unfolding number_in_slot
  number_lt = digits_lt (sheet_in c r s h).1 wide

  again : (row_at c s / 8 * tiles c + column_at c s / 8) * 64 + slot_in (column_at c s % 8) (row_at c s % 8) ≡ s
  unfolding row_at column_at
  again =
      let a : (8 * (s / 64 % tiles c) + column_of_slot (s % 64)) / 8 ≡ s / 64 % tiles c = omega (arith, column_lt (s % 64)) in
      let b : (8 * (s / 64 / tiles c) + row_of_slot (s % 64)) / 8 ≡ s / 64 / tiles c = omega (arith, row_lt (s % 64)) in
      let d : (8 * (s / 64 % tiles c) + column_of_slot (s % 64)) % 8 ≡ column_of_slot (s % 64) = omega (arith, column_lt (s % 64)) in
      let e : (8 * (s / 64 / tiles c) + row_of_slot (s % 64)) % 8 ≡ row_of_slot (s % 64) = omega (arith, row_lt (s % 64)) in
      let q : slot_in (column_of_slot (s % 64)) (row_of_slot (s % 64)) ≡ s % 64 = slot_parted (s % 64) (omega arith) in
      rw (a, b, d, e, q, div-add-mod' (s / 64) (tiles c)) (div-add-mod' s 64)

  pub slot_of_number : slot_of c (number_in_slot c s) ≡ s
  unfolding slot_of number_in_slot
  slot_of_number = rw (digits_div (row_at c s) wide, digits_mod (row_at c s) wide) again
