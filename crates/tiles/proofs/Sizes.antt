-- Numbers that fit, and cells that begin inside.
-- Assumes nothing.
use mathlib.Core.Path.{◌≡◌, ◌∙◌, ap₂, sym}
use Prim.Native.Nat.{ℕ, ◌+◌, ◌*◌, ◌/◌, ◌%◌, ◌<◌, ◌≤◌}
use native.Mathlib.Nat.{div-lt_iff_lt-mul, mod-lt, mul-le-mul, mul-pos}
use native.Mathlib.Omega.{arith}
use Rattle.tile_rules.specs.Computed.{ahead, left, order_at, order_in_tile}
use Rattle.tile_rules.specs.Tiles.{most_across, slot_in, stored_in_tiles, tile_blocks}
use Rattle.tile_rules.proofs.Cells.{ahead_lt, whole_interleaved}
use Rattle.tile_rules.proofs.Theorems.{has_columns}
use Rattle.tile_rules.proofs.Tiling.{order_within, stored_is}
use Rattle.tiles.specs.Parts.{Below, InTile, Inside, Numbered}

-- as many blocks as a sheet has at the most, and below the blocks of a tile
pub few : (a b : ℕ) → a ≤ most_across → b ≤ most_across → a * b ≤ most_across * most_across
few a b ha hb = mul-le-mul {n₁ = a} {m₁ = b} {n₂ = most_across} {m₂ = most_across} ha hb

pub of_tile : {w h n : ℕ} → w ≤ 8 → h ≤ 8 → n < h * w → n < tile_blocks
of_tile {w} {h} hw hh l = omega (arith, mul-le-mul {n₁ = h} {m₁ = w} {n₂ = 8} {m₂ = 8} hh hw)

module _ (c r b : ℕ) (h : b < r * c) where
  pub in_column : b % c < c
  in_column = mod-lt b (has_columns c r b h)

  pub in_row : b / c < r
  in_row = (div-lt_iff_lt-mul {k = c} {x = b} {y = r} (has_columns c r b h)).1 h

-- blocks before a cell
module _ (s w h x y : ℕ) (i : Inside s w h x y) where
  pub above : s * y * w ≤ most_across * most_across
  above = few (s * y) w (omega arith) i.wide

  pub beside : s * x * left s h y ≤ most_across * most_across
  beside = few (s * x) (left s h y) (omega arith) (omega arith)

  pub ahead_is : (t : ℕ) → t ≡ left s h y → Below (h * w) (s * y * w + s * x * t) (ahead s w h x y)
  ahead_is t e =
      let one : 0 < left s h y * left s w x = mul-pos (omega (arith, i.rows)) (omega (arith, i.columns)) in
      record { is = rw e; room = rw e (omega (arith, ahead_lt s w h x y 0 i.side i.columns i.rows one)) }

-- the three steps in a tile. Of the last four blocks the one in the other column is before a block, where that is in the second column
last_four_is : (n y w x h : ℕ) → y < h → n + y * w + x ≡ n + (1 * y * w + 1 * x * left 1 h y)
last_four_is n y w x h inside = let one : left 1 h y ≡ 1 = omega arith in rw one (omega arith)

module _ (w h x y : ℕ) (i : InTile w h x y) {w4 h4 w2 p q : ℕ} where
  pub tile_sum : w4 ≡ left 4 w (x / 4 % 2) → h4 ≡ left 4 h (y / 4 % 2) → w2 ≡ left 2 w4 (x / 2 % 2) → p ≡ ahead 4 w h (x / 4 % 2) (y / 4 % 2)
      → q ≡ ahead 2 w4 h4 (x / 2 % 2) (y / 2 % 2) → Below tile_blocks (p + q + y % 2 * w2 + x % 2) (order_in_tile w h x y)
  unfolding order_in_tile
  tile_sum ew4 eh4 ew2 ep eq =
      let inside : y % 2 < left 2 h4 (y / 2 % 2) = omega (arith, i.row, i.high) in
      let e : p + q + y % 2 * w2 + x % 2 ≡ order_in_tile w h x y = last_four_is (p + q) (y % 2) w2 (x % 2) _ inside ∙ rw (ep, eq, ew2, ew4, eh4) in
      record {
        is = e;
        room = rw e (of_tile i.wide i.high (order_within w h i.wide i.high x y i.column i.row));
      }

-- a block of a sheet
module _ {c r b : ℕ} (i : Numbered c r b) where
  pub columns_pos : 0 < c
  columns_pos = has_columns c r b i.number

  module _ {n u v : ℕ} (e : n ≡ ahead 8 c r (b % c / 8) (b / c / 8)) (eu : u ≡ left 8 c (b % c / 8)) (ev : v ≡ left 8 r (b / c / 8)) {z : ℕ} where
    pub stored_sum : z ≡ order_in_tile u v (b % c % 8) (b / c % 8) → n + z ≡ stored_in_tiles c r b
    unfolding order_at
    stored_sum ez = rw (e, ez, eu, ev) (sym (stored_is c r b columns_pos i.number))

    pub stored_whole : u ≡ 8 → v ≡ 8 → z ≡ slot_in (b % c % 8) (b / c % 8) → n + z ≡ stored_in_tiles c r b
    stored_whole eu8 ev8 ez =
        stored_sum (ez ∙ sym (whole_interleaved (b % c % 8) (b / c % 8) (omega arith) (omega arith))
        ∙ ap₂ (λ (p q : ℕ). order_in_tile p q (b % c % 8) (b / c % 8)) (sym eu8) (sym ev8))
