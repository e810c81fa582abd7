-- The columns of a row of a whole sheet: each block stands where `place_of` says, and is the one that the row has there.
-- Assumes nothing.
use mathlib.Core.Path.{◌≡◌, ◌∙◌, ap, sym, subst}
use mathlib.Core.List.{List}
use Prim.Native.Nat.{ℕ, ◌+◌, ◌*◌, ◌<◌, ◌≤◌}
use native.Mathlib.Omega.{arith}
use lib.Arith.{digits_lt}
use lib.ListN.{length}
use Rattle.head_rules.specs.Answers.{Head}
use Rattle.head_rules.specs.Geometry.{across, blocks_of, most_blocks, place_of, whole_length}
use Rattle.head_rules.specs.Heads.{Sized, read_head}
use Rattle.head_rules.proofs.Blocks.{few_blocks}
use Rattle.head_rules.proofs.Orders.{blocks_within}
use Rattle.head_rules.proofs.Theorems.{head_sized}
use Rattle.sheet_head.specs.Asked.{BlockAsked}
use Rattle.bcn_format.specs.Block.{block_at}
use Rattle.sheet_rules.specs.Sheets.{block_by}
use Rattle.sheet_rules.specs.SheetRows.{row_blocks}
use Rattle.sheet_rules.proofs.SheetRows.{row_block}
use Rattle.sheet.specs.Columns.{SheetRow}

module _ {h : Head} {row scan : ℕ} {s : List ℕ} {room : ℕ} (k : SheetRow h row scan s room) where
  pub size_in : Sized h.width h.height
  size_in =
      subst (λ (x : Head). Sized x.width x.height) (sym k.head)
      (head_sized s (ap (λ (x : Head). x.refusal) (sym k.head) ∙ k.told))

  module _ {n : ℕ} (en : n ≡ across h.width) where
    number_in : {c : ℕ} → c < n → row * n + c < blocks_of h
    unfolding blocks_of
    number_in l = rw (← en) (digits_lt k.inside l)

    few_in : blocks_of h ≤ most_blocks
    unfolding blocks_of
    few_in = few_blocks size_in

    pub small_in : {c : ℕ} → c < n → row * n + c < most_blocks
    small_in l = omega (arith, number_in l, few_in)

    pub asked_in : {c : ℕ} → c < n → BlockAsked h (row * n + c)
    asked_in l = record { size = size_in; number = number_in l }

    module _ {c at : ℕ} (l : c < n) (ea : at ≡ place_of h (row * n + c)) where
      pub room_in : at + 16 ≤ length s
      room_in = omega (arith, ea, k.long, blocks_within h (row * n + c) (number_in l))

      pub block_in_is : block_at s at ≡ block_at (row_blocks s row) (16 * c)
      unfolding block_by
      block_in_is =
          let e = k.head in
          let told : (read_head s).refusal ≡ 0 = ap (λ (x : Head). x.refusal) (sym e) ∙ k.told in
          let whole : length s ≡ whole_length (read_head s) = k.long ∙ ap (λ (x : Head). whole_length x) e in
          let inside : row < across (read_head s).height = subst (λ (x : Head). row < across x.height) e k.inside in
          let wide : n ≡ across (read_head s).width = en ∙ ap (λ (x : Head). across x.width) e in
          ap (block_at s) (ea ∙ ap (λ (x : Head). place_of x (row * n + c)) e ∙ ap (λ (m : ℕ). place_of (read_head s) (row * m + c)) wide)
          ∙ sym (row_block s told whole row inside c (subst (λ (m : ℕ). c < m) wide l))
