-- A tile of 8 by 8: column and row interleaved to a slot, and parted again.
-- Assumes nothing.
use mathlib.Core.Path.{◌≡◌}
use mathlib.Core.Bool.{Bool}
use Prim.Native.Nat.{ℕ, ◌<◌}
use native.Mathlib.Omega.{arith}
use lib.Dec.{T, eqb, eqb→eq}
use Rattle.laws.specs.Tables.{below, both}
use Rattle.laws.proofs.Tests.{at, both_left, both_right}
use Rattle.tile_rules.specs.Tiles.{column_of_slot, slot_in, row_of_slot}

pub column_lt : (p : ℕ) → column_of_slot p < 8
unfolding column_of_slot
column_lt p = omega arith

pub row_lt : (p : ℕ) → row_of_slot p < 8
unfolding row_of_slot
row_lt p = omega arith

pub slot_small : (x y : ℕ) → slot_in x y < 64
unfolding slot_in
slot_small x y = omega arith

-- all 64, computed
woven : ℕ → ℕ → Bool
woven x y = both (eqb (column_of_slot (slot_in x y)) x) (eqb (row_of_slot (slot_in x y)) y)

each_woven : T (below 8 (λ x. below 8 (woven x)))
unfolding woven column_of_slot row_of_slot slot_in
each_woven = tt

each_parted : T (below 64 (λ p. eqb (slot_in (column_of_slot p) (row_of_slot p)) p))
unfolding column_of_slot row_of_slot slot_in
each_parted = tt

pub slot_parted : (p : ℕ) → p < 64 → slot_in (column_of_slot p) (row_of_slot p) ≡ p
slot_parted p h = eqb→eq _ _ (at 64 (λ p. eqb (slot_in (column_of_slot p) (row_of_slot p)) p) each_parted p h)

module _ (x y : ℕ) (hx : x < 8) (hy : y < 8) where
  here : T (woven x y)
  here = at 8 (woven x) (at 8 (λ x. below 8 (woven x)) each_woven x hx) y hy

  pub column_of_slot_is : column_of_slot (slot_in x y) ≡ x
  unfolding woven
  column_of_slot_is = eqb→eq _ _ (both_left (eqb (column_of_slot (slot_in x y)) x) (eqb (row_of_slot (slot_in x y)) y) here)

  pub row_of_slot_is : row_of_slot (slot_in x y) ≡ y
  unfolding woven
  row_of_slot_is = eqb→eq _ _ (both_right (eqb (column_of_slot (slot_in x y)) x) (eqb (row_of_slot (slot_in x y)) y) here)
