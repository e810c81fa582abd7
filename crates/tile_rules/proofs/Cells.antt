-- Cells of side s, row by row, in w columns and h rows of blocks: the cell that holds a block is found again by how many are stored before
-- it, and so is the block's number.
-- Assumes nothing.
use mathlib.Core.Path.{◌≡◌, ◌∙◌, ap, ap₂, sym}
use mathlib.Core.Logic.{⊎_elim}
use mathlib.Core.Bool.{Bool}
use Prim.Native.Nat.{ℕ, ◌+◌, ◌-◌, ◌*◌, ◌/◌, ◌%◌, ◌<◌, ◌≤◌}
use native.Mathlib.Nat.{add_assoc, add-mul, add-zero, div-add-mod', div-lt_iff_lt-mul, lt_of_mul-lt-mul_right, mod-lt, mul_assoc, mul_comm}
use native.Mathlib.Nat.{mul-le-mul_left, mul-le-mul_right, mul-pos}
use native.Mathlib.Omega.{arith}
use lib.Arith.{digits_div, digits_mod}
use lib.Dec.{T, eqb, eqb→eq, lit<}
use Rattle.laws.specs.Tables.{below, both}
use Rattle.laws.proofs.Cases.{lt_or}
use Rattle.laws.proofs.Tests.{at, both_left, both_right}
use Rattle.tile_rules.specs.Computed.{ahead, cell_at, column_in_tile, left, number_from, order_at, order_in_tile, row_in_tile}
use Rattle.tile_rules.specs.Tiles.{number_in_tiles, column_of_slot, slot_in, row_of_slot}
use Rattle.tile_rules.proofs.InTile.{column_of_slot_is, row_of_slot_is, slot_small}
use Rattle.tile_rules.proofs.Theorems.{number_within, stored_of_number}
use Rattle.tile_rules.proofs.Tiling.{stored_is}

-- what is cut off at whole cells
module _ (s n a m : ℕ) (hs : 0 < s) (ha : 0 < a) (h : m < n * a) where
  parts : m / (s * a) * (s * a) + m % (s * a) ≡ m
  parts = div-add-mod' m (s * a)

  pub cut_in : s * (m / (s * a)) < n
  cut_in =
      let e : s * (m / (s * a)) * a ≡ m / (s * a) * (s * a) = ap (λ (x : ℕ). x * a) (mul_comm s (m / (s * a))) ∙ mul_assoc (m / (s * a)) s a in
      lt_of_mul-lt-mul_right a (omega (arith, parts))

  pub cut_rest : m % (s * a) < left s n (m / (s * a)) * a
  cut_rest =
      let q = m / (s * a) in
      ⊎_elim (λ l. let e : left s n q ≡ n - s * q = omega arith in
      let f : n ≡ s * q + left s n q = omega (arith, cut_in) in
      let g : n * a ≡ s * q * a + left s n q * a = ap (λ (x : ℕ). x * a) f ∙ add-mul (s * q) (left s n q) a in
      let i : s * q * a ≡ q * (s * a) = ap (λ (x : ℕ). x * a) (mul_comm s q) ∙ mul_assoc q s a in
      omega (arith, parts))
      (λ l. let e : left s n q ≡ s = omega arith in rw e (mod-lt m (mul-pos hs ha))) (lt_or (n - s * q) s)

-- a block within a cell, z of whose blocks are stored before it
module _ (s w h x y z : ℕ) (hs : 0 < s) (hx : s * x < w) (hy : s * y < h) (hz : z < left s h y * left s w x) where
  row_room : s * x * left s h y + z < left s h y * w
  row_room =
      let e : left s h y * (s * x + left s w x) ≤ left s h y * w = mul-le-mul_left (left s h y) (omega arith) in
      omega arith

  room : s * x * left s h y + z < s * w
  room = omega (arith, row_room, mul-le-mul_right {m = left s h y} {n = s} w (omega arith))

  pub ahead_lt : ahead s w h x y + z < h * w
  ahead_lt =
      let e : (s * y + left s h y) * w ≤ h * w = mul-le-mul_right w (omega arith) in
      omega (arith, row_room)

  first : ahead s w h x y + z ≡ y * (s * w) + (s * x * left s h y + z)
  first = omega arith

  second : s * x * left s h y + z ≡ x * (s * left s h y) + z
  second = omega arith

  z_room : z < s * left s h y
  z_room = omega (arith, mul-le-mul_left {m = left s w x} {n = s} (left s h y) (omega arith))

  pub cell_of : cell_at s w h (ahead s w h x y + z) ≡ record { x = x; y = y; w = left s w x; h = left s h y; rest = z }
  unfolding cell_at
  cell_of =
      rw (first, digits_div y room, digits_mod y room, second, digits_div x z_room, digits_mod x z_room)

-- a column or a row of a cell, in its halves
half_8 : (n x : ℕ) → x < n → (8 * (x / 8) < n) × (x % 8 < left 8 n (x / 8))
half_8 n x h = (omega arith, omega arith)

half_4 : (n x : ℕ) → x % 8 < n → (4 * (x % 8 / 4 % 2) < n) × (x % 8 % 4 < left 4 n (x % 8 / 4 % 2))
half_4 n x h = (omega arith, omega arith)

half_2 : (n x : ℕ) → x % 8 % 4 < n → (2 * (x % 8 / 2 % 2) < n) × (x % 8 % 2 < left 2 n (x % 8 / 2 % 2))
half_2 n x h = (omega arith, omega arith)

half_1 : (n x : ℕ) → x < n → (1 * x < n) × (0 < left 1 n x)
half_1 n x h = (omega arith, omega arith)

bits_of : ℕ → Bool
bits_of t = eqb (4 * (t / 4 % 2) + 2 * (t / 2 % 2) + t % 2) t

each_bits : T (below 8 bits_of)
unfolding bits_of
each_bits = tt

eighth : (t : ℕ) → t < 8 → 4 * (t / 4 % 2) + 2 * (t / 2 % 2) + t % 2 ≡ t
unfolding bits_of
eighth t h = eqb→eq (4 * (t / 4 % 2) + 2 * (t / 2 % 2) + t % 2) t (at 8 bits_of each_bits t h)

halves : (x : ℕ) → 8 * (x / 8) + (4 * (x % 8 / 4 % 2) + 2 * (x % 8 / 2 % 2) + x % 8 % 2) ≡ x
halves x = omega (arith, eighth (x % 8) (omega arith))

-- from column and row to the stored number, and back
module _ (c r x y : ℕ) (hx : x < c) (hy : y < r) where
  pub number_again : number_from c r (order_at c r x y) ≡ y * c + x
  unfolding number_from row_in_tile column_in_tile order_at order_in_tile
  number_again =
      let a8 = x / 8 in
      let b8 = y / 8 in
      let w8 = left 8 c a8 in
      let h8 = left 8 r b8 in
      let x8 = half_8 c x hx in
      let y8 = half_8 r y hy in
      let a4 = x % 8 / 4 % 2 in
      let b4 = y % 8 / 4 % 2 in
      let w4 = left 4 w8 a4 in
      let h4 = left 4 h8 b4 in
      let x4 = half_4 w8 x x8.1 in
      let y4 = half_4 h8 y y8.1 in
      let a2 = x % 8 / 2 % 2 in
      let b2 = y % 8 / 2 % 2 in
      let w2 = left 2 w4 a2 in
      let h2 = left 2 h4 b2 in
      let x2 = half_2 w4 x x4.1 in
      let y2 = half_2 h4 y y4.1 in
      let a1 = x % 8 % 2 in
      let b1 = y % 8 % 2 in
      let x1 = half_1 w2 a1 x2.1 in
      let y1 = half_1 h2 b1 y2.1 in
      let z1 : 0 < left 1 h2 b1 * left 1 w2 a1 = mul-pos y1.1 x1.1 in
      let m1 = ahead 1 w2 h2 a1 b1 + 0 in
      let z2 : m1 < h2 * w2 = ahead_lt 1 w2 h2 a1 b1 0 (lit< tt) x1.0 y1.0 z1 in
      let m2 = ahead 2 w4 h4 a2 b2 + m1 in
      let z4 : m2 < h4 * w4 = ahead_lt 2 w4 h4 a2 b2 m1 (lit< tt) x2.0 y2.0 z2 in
      let m4 = ahead 4 w8 h8 a4 b4 + m2 in
      let z8 : m4 < h8 * w8 = ahead_lt 4 w8 h8 a4 b4 m2 (lit< tt) x4.0 y4.0 z4 in
      let e : order_at c r x y ≡ ahead 8 c r a8 b8 + m4
      = ap (λ (n : ℕ). ahead 8 c r a8 b8 + n) (add_assoc (ahead 4 w8 h8 a4 b4) (ahead 2 w4 h4 a2 b2) (ahead 1 w2 h2 a1 b1)
      ∙ ap (λ (n : ℕ). ahead 4 w8 h8 a4 b4 + (ahead 2 w4 h4 a2 b2 + n)) (sym (add-zero (ahead 1 w2 h2 a1 b1)))) in
      ap (number_from c r) e
      ∙ rw (
        cell_of 8 c r a8 b8 m4 (lit< tt) x8.0 y8.0 z8,
        cell_of 4 w8 h8 a4 b4 m2 (lit< tt) x4.0 y4.0 z4,
        cell_of 2 w4 h4 a2 b2 m1 (lit< tt) x2.0 y2.0 z2,
        cell_of 1 w2 h2 a1 b1 0 (lit< tt) x1.0 y1.0 z1,
      )
      (ap₂ (λ (i j : ℕ). i * c + j) (halves y) (halves x))

-- in a tile that is whole within the sheet both go by the slot
by_slot : ℕ → Bool
by_slot p = both (eqb (column_in_tile 8 8 p) (column_of_slot p)) (eqb (row_in_tile 8 8 p) (row_of_slot p))

whole : ℕ → Bool
whole p = both (eqb (order_in_tile 8 8 (column_of_slot p) (row_of_slot p)) p) (by_slot p)

each_whole : T (below 64 whole)
unfolding whole by_slot order_in_tile column_in_tile row_in_tile cell_at column_of_slot row_of_slot
each_whole = tt

module _ (p : ℕ) (h : p < 64) where
  at_whole : T (whole p)
  at_whole = at 64 whole each_whole p h

  pub whole_slot : order_in_tile 8 8 (column_of_slot p) (row_of_slot p) ≡ p
  unfolding whole
  whole_slot = eqb→eq _ p (both_left (eqb (order_in_tile 8 8 (column_of_slot p) (row_of_slot p)) p) (by_slot p) at_whole)

  halfway : T (by_slot p)
  unfolding whole
  halfway = both_right (eqb (order_in_tile 8 8 (column_of_slot p) (row_of_slot p)) p) (by_slot p) at_whole

  pub whole_column : column_in_tile 8 8 p ≡ column_of_slot p
  unfolding by_slot
  whole_column = eqb→eq _ (column_of_slot p) (both_left (eqb (column_in_tile 8 8 p) (column_of_slot p)) (eqb (row_in_tile 8 8 p) (row_of_slot p)) halfway)

  pub whole_row : row_in_tile 8 8 p ≡ row_of_slot p
  unfolding by_slot
  whole_row = eqb→eq _ (row_of_slot p) (both_right (eqb (column_in_tile 8 8 p) (column_of_slot p)) (eqb (row_in_tile 8 8 p) (row_of_slot p)) halfway)

pub whole_interleaved : (x y : ℕ) → x < 8 → y < 8 → order_in_tile 8 8 x y ≡ slot_in x y
whole_interleaved x y hx hy =
    ap₂ (order_in_tile 8 8) (sym (column_of_slot_is x y hx hy)) (sym (row_of_slot_is x y hx hy)) ∙ whole_slot (slot_in x y) (slot_small x y)

-- THE CLOSED FORM of the inverse
pub number_is : (c r p : ℕ) → 0 < c → p < r * c → number_in_tiles c r p ≡ number_from c r p
number_is c r p hc h =
    let b = number_in_tiles c r p in
    let l : b < r * c = number_within c r hc p h in
    sym (ap (number_from c r) (sym (stored_of_number c r hc p h) ∙ stored_is c r b hc l)
    ∙ number_again c r (b % c) (b / c) (mod-lt b hc) ((div-lt_iff_lt-mul {k = c} {x = b} {y = r} hc).1 l) ∙ div-add-mod' b c)
