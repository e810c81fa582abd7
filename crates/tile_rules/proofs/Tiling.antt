-- How many blocks of a sheet are stored before a tile, and before a block in it.
-- Assumes nothing.
use mathlib.Core.Path.{◌≡◌, ◌∙◌, ap, ap₂, sym, subst}
use mathlib.Core.Logic.{⊎_elim}
use mathlib.Core.Bool.{Bool, true}
use Prim.Native.Nat.{ℕ, zero, suc, ◌+◌, ◌*◌, ◌/◌, ◌%◌, ◌<◌, ◌≤◌, min}
use native.Mathlib.Nat.{add-mul, add-zero, div-lt_iff_lt-mul, mod-lt, zero-mul}
use native.Mathlib.Omega.{arith}
use lib.Dec.{T, eqb, eqb→eq, ltb}
use borrow.Author.Tests.{le-ltb, lt-ltb}
use Rattle.laws.specs.Tables.{below, both, implies, pick}
use Rattle.laws.proofs.Cases.{lt_or}
use Rattle.laws.proofs.Tests.{at, implied, true_T}
use Rattle.laws.specs.Counting.{count}
use Rattle.tile_rules.specs.Computed.{left, order_at, order_in_tile}
use Rattle.tile_rules.specs.Tiles.{column_of_slot, in_sheet, slot_in, stored_in_tiles, row_of_slot, slot_of, slots, tiles}
use Rattle.laws.proofs.Counting.{count_add, count_lt, count_more, count_none, count_same}
use Rattle.tile_rules.proofs.InTile.{column_lt, column_of_slot_is, slot_small, row_lt, row_of_slot_is}
use Rattle.tile_rules.proofs.Slots.{column_at_is, row_at_is, slot_in_is, tiles_reach}

-- is slot p of a tile within the sheet, where w columns and h rows of the tile are
in_tile : ℕ → ℕ → ℕ → Bool
in_tile w h p = both (ltb (column_of_slot p) w) (ltb (row_of_slot p) h)

-- how many such slots come before slot p, where p itself may be beyond
ahead_of : ℕ → ℕ → ℕ → ℕ → ℕ → ℕ
ahead_of s w h x y = min (s * y) h * w + min (s * x) w * left s h y

within : ℕ → ℕ → ℕ → ℕ
within w h p =
    let a = p / 16 % 2 in
    let b = p / 32 % 2 in
    let w4 = left 4 w a in
    let h4 = left 4 h b in
    let d = p / 4 % 2 in
    let e = p / 8 % 2 in
    ahead_of 4 w h a b + ahead_of 2 w4 h4 d e + ahead_of 1 (left 2 w4 d) (left 2 h4 e) (p % 2) (p / 2 % 2)

-- for each of 9 by 9 sizes and 64 slots, computed
sizes : (ℕ → ℕ → Bool) → Bool
sizes f = below 9 (λ w. below 9 (f w))

at_size : (f : ℕ → ℕ → Bool) → T (sizes f) → (w h : ℕ) → w ≤ 8 → h ≤ 8 → T (f w h)
unfolding sizes
at_size f t w h lw lh = at 9 (f w) (at 9 (λ w. below 9 (f w)) t w (omega arith)) h (omega arith)

step_at : ℕ → ℕ → ℕ → Bool
step_at w h p = eqb (within w h (suc p)) (within w h p + pick (in_tile w h p) 1 0)

starts : ℕ → ℕ → Bool
starts w h = eqb (within w h 0) 0

ends : ℕ → ℕ → Bool
ends w h = eqb (within w h 63 + pick (in_tile w h 63) 1 0) (h * w)

shown_at : ℕ → ℕ → ℕ → Bool
shown_at w h p = implies (in_tile w h p) (eqb (within w h p) (order_in_tile w h (column_of_slot p) (row_of_slot p)))

each_step : T (sizes (λ w h. below 63 (step_at w h)))
unfolding sizes step_at within ahead_of in_tile column_of_slot row_of_slot
each_step = tt

each_start : T (sizes starts)
unfolding sizes starts within ahead_of
each_start = tt

each_end : T (sizes ends)
unfolding sizes ends within ahead_of in_tile column_of_slot row_of_slot
each_end = tt

each_shown : T (sizes (λ w h. below 64 (shown_at w h)))
unfolding sizes shown_at within ahead_of in_tile column_of_slot row_of_slot order_in_tile implies
each_shown = tt

module _ (w h : ℕ) (lw : w ≤ 8) (lh : h ≤ 8) where
  count_within : (p : ℕ) → p < 64 → count p (in_tile w h) ≡ within w h p
  unfolding starts step_at
  count_within zero l = count_none (in_tile w h) ∙ sym (eqb→eq (within w h 0) 0 (at_size starts each_start w h lw lh))
  count_within (suc p) l =
      count_more p (in_tile w h) ∙ ap (λ (n : ℕ). n + pick (in_tile w h p) 1 0) (count_within p (omega arith))
      ∙ sym (eqb→eq (within w h (suc p)) _ (at 63 (step_at w h) (at_size (λ w h. below 63 (step_at w h)) each_step w h lw lh) p (omega arith)))

  -- a tile has as many blocks as its columns times its rows
  count_tile : count 64 (in_tile w h) ≡ h * w
  unfolding ends
  count_tile =
      count_more 63 (in_tile w h) ∙ ap (λ (n : ℕ). n + pick (in_tile w h 63) 1 0) (count_within 63 (omega arith))
      ∙ eqb→eq _ (h * w) (at_size ends each_end w h lw lh)

  count_slot : (p : ℕ) → p < 64 → in_tile w h p ≡ true → count p (in_tile w h) ≡ order_in_tile w h (column_of_slot p) (row_of_slot p)
  unfolding shown_at
  count_slot p l e =
      count_within p l
      ∙ eqb→eq (within w h p) _
      (implied (in_tile w h p) _ (at 64 (shown_at w h) (at_size (λ w h. below 64 (shown_at w h)) each_shown w h lw lh) p l)
      (true_T (in_tile w h p) e))

  -- a block of a tile has fewer stored before it than the tile has
  pub order_within : (x y : ℕ) → x < w → y < h → order_in_tile w h x y < h * w
  unfolding in_tile
  order_within x y lx ly =
      let p = slot_in x y in
      let ex : column_of_slot p ≡ x = column_of_slot_is x y (omega arith) (omega arith) in
      let ey : row_of_slot p ≡ y = row_of_slot_is x y (omega arith) (omega arith) in
      let t : in_tile w h p ≡ true = rw (ex, ey, lt-ltb x w lx, lt-ltb y h ly) in
      let e : count p (in_tile w h) ≡ order_in_tile w h x y = count_slot p (slot_small x y) t ∙ ap₂ (order_in_tile w h) ex ey in
      subst (λ (n : ℕ). n < h * w) e (subst (λ (n : ℕ). count p (in_tile w h) < n) count_tile (count_lt (in_tile w h) p 64 (slot_small x y) t))

ltb_same : (a b x y : ℕ) → (a < b → x < y) → (x < y → a < b) → ltb a b ≡ ltb x y
ltb_same a b x y f g =
    ⊎_elim (λ l. lt-ltb a b l ∙ sym (lt-ltb x y (f l))) (λ l. le-ltb a b l ∙ sym (le-ltb x y (other l))) (lt_or a b)
  where
    other : b ≤ a → y ≤ x
    other l = ⊎_elim (λ m. absurd (let q : ⊥ = omega (arith, g m) in q)) (λ m. m) (lt_or x y)

-- one tile of the sheet
module _ (c r tr tc : ℕ) (ht : tc < tiles c) where
  tile_same : (p : ℕ) → p < 64 → in_sheet c r ((tr * tiles c + tc) * 64 + p) ≡ in_tile (left 8 c tc) (left 8 r tr) p
  unfolding in_sheet in_tile
  tile_same p hp =
      ap₂ both
      (ap (λ (n : ℕ). ltb n c) (column_at_is c tr tc p ht hp)
      ∙ ltb_same (8 * tc + column_of_slot p) c (column_of_slot p) (left 8 c tc) (λ l. omega (arith, column_lt p)) (λ l. omega arith))
      (ap (λ (n : ℕ). ltb n r) (row_at_is c tr tc p ht hp)
      ∙ ltb_same (8 * tr + row_of_slot p) r (row_of_slot p) (left 8 r tr) (λ l. omega (arith, row_lt p)) (λ l. omega arith))

  part_count : (p : ℕ) → p ≤ 64 → count p (λ k. in_sheet c r ((tr * tiles c + tc) * 64 + k)) ≡ count p (in_tile (left 8 c tc) (left 8 r tr))
  part_count p l = count_same p _ (in_tile (left 8 c tc) (left 8 r tr)) (λ k lk. tile_same k (omega arith))

  next_tile : count ((tr * tiles c + suc tc) * 64) (in_sheet c r) ≡ count ((tr * tiles c + tc) * 64) (in_sheet c r) + left 8 r tr * left 8 c tc
  next_tile =
      let e : (tr * tiles c + suc tc) * 64 ≡ (tr * tiles c + tc) * 64 + 64 = omega arith in
      rw (
        e,
        count_add ((tr * tiles c + tc) * 64) 64 (in_sheet c r),
        part_count 64 (omega arith),
        count_tile (left 8 c tc) (left 8 r tr) (omega arith) (omega arith),
      )

module _ (c r : ℕ) where
  -- a row of tiles
  along : (tr tc : ℕ) → tc ≤ tiles c → count ((tr * tiles c) * 64) (in_sheet c r) ≡ min (8 * tr) r * c
      → count ((tr * tiles c + tc) * 64) (in_sheet c r) ≡ min (8 * tr) r * c + min (8 * tc) c * left 8 r tr
  along tr zero l e = rw (add-zero (tr * tiles c), e) (let z : min (8 * 0) c ≡ 0 = omega arith in rw (z, zero-mul (left 8 r tr)) (sym (add-zero _)))
  along tr (suc tc) l e =
      let z : min (8 * suc tc) c ≡ min (8 * tc) c + left 8 c tc = omega arith in
      rw (next_tile c r tr tc l, along tr tc (omega arith) e, z, add-mul (min (8 * tc) c) (left 8 c tc) (left 8 r tr)) (omega arith)

  down : (tr : ℕ) → count ((tr * tiles c) * 64) (in_sheet c r) ≡ min (8 * tr) r * c
  unfolding tiles
  down zero =
      let z : min (8 * 0) r ≡ 0 = omega arith in
      rw (zero-mul (tiles c), zero-mul 64, count_none (in_sheet c r), z) (sym (zero-mul c))
  down (suc tr) =
      let e : suc tr * tiles c ≡ tr * tiles c + tiles c = omega arith in
      let z : min (8 * suc tr) r ≡ min (8 * tr) r + left 8 r tr = omega arith in
      let y : min (8 * tiles c) c ≡ c = omega arith in
      rw (e, along tr (tiles c) (omega arith) (down tr), y, z, add-mul (min (8 * tr) r) (left 8 r tr) c) (omega arith)

  -- as many slots within the sheet as blocks
  pub count_all : count (slots c r) (in_sheet c r) ≡ r * c
  unfolding slots tiles
  count_all = let y : min (8 * tiles r) r ≡ r = omega arith in down (tiles r) ∙ ap (λ (n : ℕ). n * c) y

-- THE CLOSED FORM: the stored number of a block, counted, is the one computed
module _ (c r b : ℕ) (hc : 0 < c) (h : b < r * c) where
  wide : b % c < c
  wide = mod-lt b hc

  high : b / c < r
  high = (div-lt_iff_lt-mul {k = c} {x = b} {y = r} hc).1 h

  pub stored_is : stored_in_tiles c r b ≡ order_at c r (b % c) (b / c)
  unfolding stored_in_tiles order_at slot_of
  stored_is =
      let x = b % c in
      let y = b / c in
      let p = slot_in (x % 8) (y % 8) in
      let ht : x / 8 < tiles c = tiles_reach c x wide in
      let hp : p < 64 = slot_small (x % 8) (y % 8) in
      let w = left 8 c (x / 8) in
      let g = left 8 r (y / 8) in
      let t : in_tile w g p ≡ true = sym (tile_same c r (y / 8) (x / 8) ht p hp) ∙ slot_in_is c b hc r h in
      let m : min (8 * (y / 8)) r ≡ 8 * (y / 8) = omega (arith, high) in
      let n : min (8 * (x / 8)) c ≡ 8 * (x / 8) = omega (arith, wide) in
      count_add ((y / 8 * tiles c + x / 8) * 64) p (in_sheet c r)
      ∙ ap₂ (λ (i j : ℕ). i + j)
      (along c r (y / 8) (x / 8) (omega arith) (down c r (y / 8)) ∙ ap₂ (λ (i j : ℕ). i * c + j * left 8 r (y / 8)) m n)
      (part_count c r (y / 8) (x / 8) ht p (omega arith) ∙ count_slot w g (omega arith) (omega arith) p hp t
      ∙ ap₂ (λ (i j : ℕ). order_in_tile w g i j) (column_of_slot_is (x % 8) (y % 8) (omega arith) (omega arith))
      (row_of_slot_is (x % 8) (y % 8) (omega arith) (omega arith)))
