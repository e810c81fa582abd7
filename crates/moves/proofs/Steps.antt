-- One block moved after another.
-- Assumes nothing.
use mathlib.Core.Path.{◌≡◌, ◌∙◌, ap, ap₂, sym, subst}
use mathlib.Core.List.{List}
use Prim.Native.Nat.{ℕ, ◌+◌, ◌*◌, ◌/◌, ◌%◌, ◌<◌, ◌≤◌}
use native.Mathlib.Omega.{arith}
use lib.ListN.{get_or}
use Rattle.laws.proofs.Over.{part_over}
use Rattle.laws.proofs.Part.{Part, part_all}
use Rattle.tile_rules.proofs.Theorems.{has_columns}
use Rattle.head_rules.specs.declared.Form.{Form}
use Rattle.head_rules.specs.Answers.{Head}
use Rattle.head_rules.specs.Geometry.{across, blocks_of, most_blocks, number_by, place_of, stored_at, stored_by, whole_length}
use Rattle.head_rules.specs.Heads.{Sized}
use Rattle.head_rules.proofs.Blocks.{few_blocks}
use Rattle.head_rules.proofs.Orders.{form_order}
use Rattle.sheet_rules.specs.Pictures.{blocks_as, byte_as}
use Rattle.bcn_format.specs.Block.{block_at, put_block}
use Rattle.sheet_rules.specs.Sheets.{block_by}
use Rattle.sheet_rules.proofs.Pictures.{number_back, number_lt, stored_back, stored_lt}
use Rattle.tiles.specs.Parts.{Numbered}
use Rattle.moves.specs.Rooms.{Stores}

module _ (f : Form) (h : Head) (s : List ℕ) where
  abbrev columns : ℕ
  columns = across h.width

  abbrev rows : ℕ
  rows = across h.height

  -- the blocks below b stand where form f stores them
  abbrev pub Moved : ℕ → List ℕ → Type 0
  Moved b out = Part (16 * blocks_of h) 0 (byte_as f h s) (λ k. number_by f columns rows (k / 16) < b) out

  pub all_moved : {out : List ℕ} → Moved (blocks_of h) out → out ≡ blocks_as f h s
  unfolding blocks_as
  all_moved z = part_all z (λ k l. number_lt f h s (k / 16) (omega (arith, l)))

  byte_is : (b : ℕ) → b < blocks_of h → (j : ℕ) → j < 16 → get_or (block_by h s b) j 0 ≡ byte_as f h s (16 * stored_by f columns rows b + j)
  unfolding byte_as
  byte_is b l j lj =
      let q = stored_by f columns rows b in
      let up : (16 * q + j) / 16 ≡ q = omega arith in
      let low : (16 * q + j) % 16 ≡ j = omega arith in
      rw (up, low, number_back f h s b l)

  pub next_moved : {out : List ℕ} (b : ℕ) → b < blocks_of h → Moved b out
      → Moved (b + 1) (put_block out (16 * stored_by f columns rows b) (block_by h s b))
  unfolding put_block
  next_moved {out} b l z =
      let q = stored_by f columns rows b in
      part_over (16 * q) 16 (λ j. get_or (block_by h s b) j 0) z (omega (arith, stored_lt f h s b l)) (byte_is b l)
      (λ k lk below outside. strict (number_by f columns rows (k / 16)) b below (λ e. outside (stands k lk e)))
    where
      strict : (x b : ℕ) → x < b + 1 → (x ≡ b → ⊥) → x < b
      strict x b l ne = omega (arith, l, ne)

      stands : (k : ℕ) → k < 16 * blocks_of h → number_by f columns rows (k / 16) ≡ b
          → (16 * stored_by f columns rows b ≤ k) × (k < 16 * stored_by f columns rows b + 16)
      stands k lk e =
          let i : stored_by f columns rows b ≡ k / 16 = ap (stored_by f columns rows) (sym e) ∙ stored_back f h s (k / 16) (omega (arith, lk)) in
          (omega (arith, i), omega (arith, i))

-- where a form stores a block is one of the places
pub stored_there : {c r b q : ℕ} → Numbered c r b → (f : Form) → q ≡ stored_by f c r b → Stores f c r b q
stored_there {c} {r} {b} k f e =
    record { same = e; inside = rw e ((form_order f c r (has_columns c r b k.number)).to b k.number) }

-- the numbers that the loop goes by: c columns and r rows of blocks
pub record Counted (h : Head) (c r : ℕ) : Type 0 where
  pub size : Sized h.width h.height
  pub columns_are : c ≡ across h.width
  pub rows_are : r ≡ across h.height

module _ {h : Head} {c r : ℕ} (k : Counted h c r) where
  pub all_of : r * c ≡ blocks_of h
  unfolding blocks_of
  all_of = rw (k.columns_are, k.rows_are)

  few : blocks_of h ≤ most_blocks
  unfolding blocks_of
  few = few_blocks k.size

  pub numbered : {b : ℕ} → b < r * c → Numbered c r b
  numbered l = record {
    wide = omega (arith, k.columns_are, k.size.within_wide);
    high = omega (arith, k.rows_are, k.size.within_high);
    number = l;
  }

  pub stored_within : {q : ℕ} → q < r * c → q < blocks_of h
  stored_within l = omega (arith, all_of, l)

  -- where a block stands in the sheet
  pub block_there : {n q : ℕ} → n ≡ whole_length h → q < r * c → h.start + 16 * q + 16 ≤ n
  block_there e l = omega (arith, e, stored_within l)

  module _ {b q : ℕ} (s : List ℕ) (l : b < r * c) (at : Stores h.form c r b q) where
    place_is : h.start + 16 * q ≡ place_of h b
    unfolding place_of stored_at
    place_is = rw (at.same, k.columns_are, k.rows_are)

    block_is : {block : List ℕ} → block ≡ block_at s (h.start + 16 * q) → block ≡ block_by h s b
    unfolding block_by
    block_is e = e ∙ ap (block_at s) place_is

    -- one block more
    pub moved_on : (g : Form) {block out after : List ℕ} {p : ℕ} → block ≡ block_at s (h.start + 16 * q) → Stores g c r b p
        → Moved g h s b out → after ≡ put_block out (16 * p) block → Moved g h s (b + 1) after
    moved_on g {block} {out} {after} {p} eb to z e =
        let stored_is : p ≡ stored_by g (across h.width) (across h.height) b = rw (← k.columns_are, ← k.rows_are) to.same in
        subst (Moved g h s (b + 1)) (sym (e ∙ ap₂ (λ (n : ℕ) (x : List ℕ). put_block out (16 * n) x) stored_is (block_is eb)))
        (next_moved g h s b (omega (arith, all_of, l)) z)
