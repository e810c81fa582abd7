-- The stored blocks of a sheet of either form: each block has exactly one stored number, and each of them is one block's.
-- Assumes nothing.
use mathlib.Core.Path.{◌≡◌, refl, ap, sym}
use mathlib.Core.Logic.{◌⊎◌, inl, inr, ⊎_elim, ◌≢◌}
use Prim.Native.Nat.{ℕ, ◌+◌, ◌*◌, ◌<◌, ◌≤◌}
use native.Mathlib.Nat.{eq-or-lt_of_le}
use native.Mathlib.Omega.{arith}
use Rattle.laws.proofs.Cases.{lt_or}
use Rattle.laws.specs.Inverse.{Inverse}
use Rattle.tile_rules.specs.Tiles.{number_in_tiles, stored_in_tiles}
use Rattle.tile_rules.proofs.Theorems.{has_columns, tile_order}
use Rattle.laws.proofs.Inverse.{inverse_apart, inverse_turn}
use Rattle.laws.proofs.Sums.{count_moved}
use Rattle.laws.specs.Counting.{count}
use mathlib.Core.Bool.{Bool}
use Rattle.head_rules.specs.declared.Form.{Form}
use Rattle.head_rules.specs.declared.Form.TheVariants.{Rows, Tiles}
use Rattle.head_rules.specs.Answers.{Head}
use Rattle.head_rules.specs.Geometry.{across, blocks_of, most_blocks, number_at, number_by, place_of, stored_at, stored_by}
use Rattle.head_rules.specs.Geometry.{whole_length}
use Rattle.head_rules.specs.Heads.{Sized}
use Rattle.head_rules.proofs.Blocks.{few_blocks}

pub form_order : (f : Form) (c r : ℕ) → 0 < c → Inverse (r * c) (stored_by f c r) (number_by f c r)
form_order Rows c r h = record { to = λ k l. l; from = λ k l. l; from_to = λ k l. refl; to_from = λ k l. refl }
form_order Tiles c r h = tile_order c r h

module _ (h : Head) where
  -- stored_at and number_at are inverse to each other on the blocks of a sheet
  pub one_order : 0 < blocks_of h → Inverse (blocks_of h) (stored_at h) (number_at h)
  unfolding blocks_of stored_at number_at
  one_order l = form_order h.form (across h.width) (across h.height) (has_columns (across h.width) (across h.height) 0 l)

  -- counts: a test of the blocks passes as often in stored order as row by row
  pub counted_stored : 0 < blocks_of h → (t : ℕ → Bool) → count (blocks_of h) (λ p. t (number_at h p)) ≡ count (blocks_of h) t
  counted_stored l t = count_moved (inverse_turn (one_order l)) t

  some_block : {b : ℕ} → b < blocks_of h → 0 < blocks_of h
  some_block l = omega (arith, l)

  pub stored_in : (b : ℕ) → b < blocks_of h → stored_at h b < blocks_of h
  stored_in b l = (one_order (some_block l)).to b l

  pub numbered_in : (p : ℕ) → p < blocks_of h → number_at h p < blocks_of h
  numbered_in p l = (one_order (some_block l)).from p l

  pub stored_again : (p : ℕ) → p < blocks_of h → stored_at h (number_at h p) ≡ p
  stored_again p l = (one_order (some_block l)).to_from p l

  pub number_again : (b : ℕ) → b < blocks_of h → number_at h (stored_at h b) ≡ b
  number_again b l = (one_order (some_block l)).from_to b l

  pub stored_apart : (a b : ℕ) → a < blocks_of h → b < blocks_of h → stored_at h a ≡ stored_at h b → a ≡ b
  stored_apart a b la lb = inverse_apart (one_order (some_block la)) a b la lb

  -- blocks stand behind the head, apart from each other, within the sheet; and each sixteen bytes behind the head are one block's
  pub blocks_behind_head : (b : ℕ) → h.start ≤ place_of h b
  unfolding place_of
  blocks_behind_head b = omega arith

  pub blocks_apart : (a b : ℕ) → a < blocks_of h → b < blocks_of h → a ≢ b → (place_of h a + 16 ≤ place_of h b) ⊎ (place_of h b + 16 ≤ place_of h a)
  unfolding place_of
  blocks_apart a b la lb ne =
      ⊎_elim (λ l. inl (omega (arith, l)))
      (λ l. ⊎_elim (λ e. absurd (ne (stored_apart a b la lb (sym e)))) (λ m. inr (omega (arith, m))) (eq-or-lt_of_le l))
      (lt_or (stored_at h a) (stored_at h b))

  pub blocks_within : (b : ℕ) → b < blocks_of h → place_of h b + 16 ≤ whole_length h
  unfolding place_of
  blocks_within b l = omega (arith, stored_in b l)

  pub each_place : (p : ℕ) → p < blocks_of h → place_of h (number_at h p) ≡ h.start + 16 * p
  unfolding place_of
  each_place p l = ap (λ (q : ℕ). h.start + 16 * q) (stored_again p l)

  -- the ways of `stored_at` and `number_at`
  module _ (z : Sized h.width h.height) where
    few : blocks_of h ≤ most_blocks
    unfolding blocks_of
    few = few_blocks z

    pub stored_few : (b : ℕ) → b < blocks_of h → stored_at h b < most_blocks
    stored_few b l = omega (arith, few, stored_in b l)

    pub number_few : (p : ℕ) → p < blocks_of h → number_at h p < most_blocks
    number_few p l = omega (arith, few, numbered_in p l)

  module _ (e : h.form ≡ Rows) where
    pub stored_in_rows : (b : ℕ) → b ≡ stored_at h b
    unfolding stored_at
    stored_in_rows b = rw e

    pub number_in_rows : (p : ℕ) → p ≡ number_at h p
    unfolding number_at
    number_in_rows p = rw e

  module _ {c r : ℕ} (ec : c ≡ across h.width) (er : r ≡ across h.height) where
    pub in_all : {b : ℕ} → b < blocks_of h → b < r * c
    unfolding blocks_of
    in_all l = rw (ec, er) l

    pub stored_in_tiles_is : h.form ≡ Tiles → (b : ℕ) → stored_in_tiles c r b ≡ stored_at h b
    unfolding stored_at
    stored_in_tiles_is e b = rw (e, ec, er)

    pub number_in_tiles_is : h.form ≡ Tiles → (p : ℕ) → number_in_tiles c r p ≡ number_at h p
    unfolding number_at
    number_in_tiles_is e p = rw (e, ec, er)
