-- The cell that holds a block, found by how many are stored before it, and the block's number.
-- Assumes nothing.
use mathlib.Core.Path.{◌≡◌, ◌∙◌, ap, ap₂, sym, subst}
use Prim.Native.Nat.{ℕ, ◌+◌, ◌*◌, ◌/◌, ◌%◌, ◌<◌, ◌≤◌}
use native.Mathlib.Nat.{mul_comm, mul-le-mul, mul-pos}
use native.Mathlib.Omega.{arith}
use Rattle.tile_rules.specs.Computed.{cell_at, column_in_tile, left, number_from, row_in_tile}
use Rattle.tile_rules.specs.Tiles.{column_of_slot, most_across, number_in_tiles, row_of_slot, tile_blocks}
use Rattle.tile_rules.proofs.Cells.{cut_in, cut_rest, number_is, whole_column, whole_row}
use Rattle.tiles.specs.Parts.{CellFound, Numbered, SpotFound}
use Rattle.tile_rules.specs.declared.Cell.{Cell}
use Rattle.tiles.proofs.Sizes.{columns_pos}

module _ {s w h m : ℕ} (hs : 0 < s) (h8 : s ≤ 8) (i : Numbered w h m) where
  pub line_fits_is : s * w ≤ 8 * most_across
  line_fits_is = mul-le-mul {n₁ = s} {m₁ = w} {n₂ = 8} {m₂ = most_across} h8 i.wide

  pub y_in : s * (m / (s * w)) < h
  y_in = cut_in s h w m hs (columns_pos i) i.number

  module _ (t : ℕ) (e : t ≡ left s h (m / (s * w))) where
    t_pos : 0 < t
    t_pos = omega (arith, y_in)

    pub column_pos : 0 < s * t
    column_pos = mul-pos hs t_pos

    past : m % (s * w) < w * t
    past = subst (λ (n : ℕ). m % (s * w) < n) (ap (λ (n : ℕ). n * w) (sym e) ∙ mul_comm t w) (cut_rest s h w m hs (columns_pos i) i.number)

    pub x_in : s * (m % (s * w) / (s * t)) < w
    x_in = cut_in s w t (m % (s * w)) hs t_pos past

    pub found : (u : ℕ) → u ≡ left s w (m % (s * w) / (s * t))
        → CellFound s w h m (record { x = m % (s * w) / (s * t); y = m / (s * w); w = u; h = t; rest = m % (s * w) % (s * t) })
    unfolding cell_at
    found u eu = record {
      is = rw (eu, e);
      columns = x_in;
      rows = y_in;
      wide = omega arith;
      high = omega arith;
      number = rw eu (subst (λ (n : ℕ). m % (s * w) % (s * t) < n) (mul_comm (left s w (m % (s * w) / (s * t))) t)
          (cut_rest s w t (m % (s * w)) hs t_pos past));
    }

-- three cells one in another
pub spot : {w h m : ℕ} {b d e : Cell} → w ≤ 8 → h ≤ 8 → CellFound 4 w h m b → CellFound 2 b.w b.h b.rest d
    → CellFound 1 d.w d.h d.rest e
    → SpotFound w h m (record { x = 4 * b.x + 2 * d.x + e.x; y = 4 * b.y + 2 * d.y + e.y })
unfolding column_in_tile row_in_tile
spot {w} {h} {m} {b} {d} {e} lw lh fb fd fe = record {
  column = rw (fe.is, fd.is, fb.is);
  row = rw (fe.is, fd.is, fb.is);
  wide = omega arith;
  high = omega arith;
}

-- the block that has p stored before it
module _ {c r p : ℕ} {a : Cell} (i : Numbered c r p) (f : CellFound 8 c r p a) where
  pub number_sum : {x y : ℕ} → x ≡ column_in_tile a.w a.h a.rest → y ≡ row_in_tile a.w a.h a.rest
      → (8 * a.y + y) * c + (8 * a.x + x) ≡ number_in_tiles c r p
  unfolding number_from
  number_sum ex ey = rw (ex, ey, f.is) (sym (number_is c r p (columns_pos i) i.number))

  module _ (ew : a.w ≡ 8) (eh : a.h ≡ 8) where
    pub rest_small : a.rest < tile_blocks
    rest_small = subst (λ (n : ℕ). a.rest < n) (ap₂ (λ (x y : ℕ). x * y) eh ew) f.number

    pub number_whole : {x y : ℕ} → x ≡ column_of_slot a.rest → y ≡ row_of_slot a.rest → (8 * a.y + y) * c + (8 * a.x + x) ≡ number_in_tiles c r p
    number_whole ex ey =
        number_sum (ex ∙ sym (whole_column a.rest rest_small) ∙ ap₂ (λ (u v : ℕ). column_in_tile u v a.rest) (sym ew) (sym eh))
        (ey ∙ sym (whole_row a.rest rest_small) ∙ ap₂ (λ (u v : ℕ). row_in_tile u v a.rest) (sym ew) (sym eh))
