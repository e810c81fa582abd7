-- The ways of `block_in_sheet`.
-- Assumes nothing.
use mathlib.Core.Path.{◌≡◌, ◌∙◌, ap}
use mathlib.Core.Logic.{◌≢◌}
use mathlib.Core.List.{List}
use Prim.Native.Nat.{ℕ}
use lib.ListN.{replicate}
use Rattle.refusals.specs.Answers.{Answer}
use Rattle.sheet_rules.specs.Blocks.{BlockRead, block_read}
use Rattle.bcn_format.specs.Block.{block_at}
use Rattle.sheet_rules.specs.Sheets.{block_by}
use Rattle.sheet_rules.proofs.Blocks.{block_accepted, block_refused}
use Rattle.sheet.specs.Found.{find_block}
use Rattle.sheet.proofs.blocks.Finding.{at_is, refusal_is, told}

abbrev read : ℕ → List ℕ → BlockRead
read r bytes = record { refusal = r; block = bytes }

module _ (s : List ℕ) (b : ℕ) {f : Answer ℕ} (ef : f ≡ find_block s b) where
  pub not_read : f.refusal ≢ 0 → read f.refusal (replicate 16 0) ≡ block_read s b
  not_read ne =
      let e = refusal_is s b ef in
      ap (λ (r : ℕ). read r (replicate 16 0)) e ∙ block_refused s b (λ z. ne (e ∙ z))

  pub block_read_is : f.refusal ≡ 0 → {bytes : List ℕ} → bytes ≡ block_at s f.value → read 0 bytes ≡ block_read s b
  unfolding block_by
  block_read_is a e = ap (read 0) (e ∙ ap (block_at s) (at_is s b ef a)) ∙ block_accepted s b (told s b ef a)
