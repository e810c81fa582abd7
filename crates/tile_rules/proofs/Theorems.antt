-- In tile order each block has exactly one stored number, and each number below the count is one block's; what follows for moves; and
-- column and row of a tile interleaved to a slot and parted again.
-- Assumes nothing.
use mathlib.Core.Path.{◌≡◌, refl, ◌∙◌, ap, ap₂, sym, subst}
use mathlib.Core.Bool.{Bool}
use mathlib.Core.Logic.{⊎_elim}
use mathlib.Core.List.{List, [], ◌∷◌, map}
use Prim.Native.Nat.{ℕ, zero, suc, ◌*◌, ◌/◌, ◌%◌, ◌<◌}
use native.Mathlib.Nat.{eq-zero-or-pos, le_of_suc-le-suc, mul-zero, not-suc-le-zero}
use native.Mathlib.Omega.{arith}
use lib.Dec.{T, eqb, eqb→eq}
use lib.ListN.{length, get_or, length-map}
use Rattle.laws.specs.Counting.{count, kept}
use Rattle.laws.specs.Inverse.{Inverse}
use Rattle.laws.specs.Tables.{below}
use Rattle.laws.proofs.Counting.{Kept, at_kept, count_lt, kept_at, kept_long}
use Rattle.laws.proofs.Tests.{at}
use Rattle.tile_rules.specs.Computed.{order_at, order_in_tile}
use Rattle.tile_rules.specs.Tiles.{column_of_slot, in_sheet, most_across, number_in_slot, number_in_tiles, row_of_slot, slot_in, slot_of, slots}
use Rattle.tile_rules.specs.Tiles.{stored_in_tiles, stored_order}
use Rattle.tile_rules.proofs.InTile.{column_lt, column_of_slot_is, row_lt, row_of_slot_is, slot_parted, slot_small}
use Rattle.tile_rules.proofs.Slots.{number_lt, number_of_slot, slot_in_is, slot_lt, slot_of_number}
use Rattle.tile_rules.proofs.Tiling.{count_all, stored_is}

get_d_map_in : (f : ℕ → ℕ) (l : List ℕ) (k : ℕ) → k < length l → get_or (map f l) k 0 ≡ f (get_or l k 0)
get_d_map_in f [] k h = absurd (not-suc-le-zero h)
get_d_map_in f (x ∷ l) zero h = refl
get_d_map_in f (x ∷ l) (suc k) h = get_d_map_in f l k (le_of_suc-le-suc h)

-- a sheet that has a block has a column
pub has_columns : (c r b : ℕ) → b < r * c → 0 < c
has_columns c r b h =
    ⊎_elim (λ e. absurd (not-suc-le-zero (subst (λ (n : ℕ). b < n) (ap (λ (n : ℕ). r * n) e ∙ mul-zero r) h))) (λ l. l) (eq-zero-or-pos c)

module _ (c r : ℕ) (hc : 0 < c) where
  -- as many are stored as the sheet has blocks: nothing for the slots beyond it
  pub order_long : length (stored_order c r) ≡ r * c
  unfolding stored_order
  order_long = length-map (kept (slots c r) (in_sheet c r)) (number_in_slot c) ∙ kept_long (slots c r) (in_sheet c r) ∙ count_all c r

  slot_at : ℕ → ℕ
  slot_at p = get_or (kept (slots c r) (in_sheet c r)) p 0

  slot_kept : (p : ℕ) → p < r * c → Kept (slots c r) (in_sheet c r) p (slot_at p)
  unfolding slot_at
  slot_kept p h = at_kept (slots c r) (in_sheet c r) p (rw (count_all c r) h)

  number_at : (p : ℕ) → p < r * c → number_in_tiles c r p ≡ number_in_slot c (slot_at p)
  unfolding number_in_tiles stored_order slot_at
  number_at p h = get_d_map_in (number_in_slot c) (kept (slots c r) (in_sheet c r)) p (rw (kept_long (slots c r) (in_sheet c r), count_all c r) h)

  pub number_within : (p : ℕ) → p < r * c → number_in_tiles c r p < r * c
  number_within p h = rw (number_at p h) (number_lt c r (slot_at p) (slot_kept p h).passes)

  pub stored_within : (b : ℕ) → b < r * c → stored_in_tiles c r b < r * c
  unfolding stored_in_tiles
  stored_within b h = rw count_all at (count_lt (in_sheet c r) (slot_of c b) (slots c r) (slot_lt c b hc r h) (slot_in_is c b hc r h))

  pub number_of_stored : (b : ℕ) → b < r * c → number_in_tiles c r (stored_in_tiles c r b) ≡ b
  unfolding stored_in_tiles slot_at
  number_of_stored b h =
      number_at (stored_in_tiles c r b) (stored_within b h)
      ∙ ap (number_in_slot c) (kept_at (slots c r) (in_sheet c r) (slot_of c b) (slot_lt c b hc r h) (slot_in_is c b hc r h)) ∙ number_of_slot c b hc

  pub stored_of_number : (p : ℕ) → p < r * c → stored_in_tiles c r (number_in_tiles c r p) ≡ p
  unfolding stored_in_tiles
  stored_of_number p h =
      ap (λ (b : ℕ). count (slot_of c b) (in_sheet c r)) (number_at p h)
      ∙ ap (λ (s : ℕ). count s (in_sheet c r)) (slot_of_number c r (slot_at p) (slot_kept p h).passes) ∙ (slot_kept p h).before

  -- each block has exactly one stored number, and each of them is one block's
  pub tile_order : Inverse (r * c) (stored_in_tiles c r) (number_in_tiles c r)
  tile_order = record { to = stored_within; from = number_within; from_to = number_of_stored; to_from = stored_of_number }

-- one row of blocks, the widest that there is, is stored as it stands
widest : ℕ → Bool
widest b = eqb (order_at most_across 1 b 0) b

each_widest : T (below most_across widest)
unfolding widest order_at order_in_tile
each_widest = tt

module _ (b : ℕ) (h : b < most_across) where
  pub one_row : stored_in_tiles most_across 1 b ≡ b
  unfolding widest
  one_row =
      let x : b % most_across ≡ b = omega arith in
      let y : b / most_across ≡ 0 = omega arith in
      stored_is most_across 1 b (omega arith) (omega arith) ∙ ap₂ (order_at most_across 1) x y
      ∙ eqb→eq (order_at most_across 1 b 0) b (at most_across widest each_widest b h)

  pub one_row_back : number_in_tiles most_across 1 b ≡ b
  one_row_back = ap (number_in_tiles most_across 1) (sym one_row) ∙ number_of_stored most_across 1 (omega arith) b (omega arith)

-- THE NAMED FORM of document 01: column and row of a tile interleaved to a slot, and parted again, inverse to each other
pub record Interleaved : Type 0 where
  pub slots_64 : (x y : ℕ) → slot_in x y < 64
  pub columns_8 : (p : ℕ) → column_of_slot p < 8
  pub rows_8 : (p : ℕ) → row_of_slot p < 8
  pub parted : (x y : ℕ) → x < 8 → y < 8 → (column_of_slot (slot_in x y) ≡ x) × (row_of_slot (slot_in x y) ≡ y)
  pub interleaved_again : (p : ℕ) → p < 64 → slot_in (column_of_slot p) (row_of_slot p) ≡ p

pub interleaved : Interleaved
interleaved = record {
  slots_64 = slot_small;
  columns_8 = column_lt;
  rows_8 = row_lt;
  parted = λ x y hx hy. (column_of_slot_is x y hx hy, row_of_slot_is x y hx hy);
  interleaved_again = slot_parted;
}
