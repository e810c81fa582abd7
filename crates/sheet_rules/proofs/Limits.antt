-- MAPS UP TO 16,384, AND TILES, ON ROWS AND SHEETS: what a console of before accepted is decoded and corrected as it was; for a larger map of
-- form 1 such a console answers 9, for a sheet of form 2 it answers 8, and it shows nothing of either and leaves every byte.
-- Assumes nothing.
use mathlib.Core.Path.{◌≡◌, refl, ap}
use mathlib.Core.Logic.{◌⊎◌, ◌≢◌}
use mathlib.Core.List.{List}
use Prim.Native.Nat.{ℕ, ◌<◌}
use native.Mathlib.Omega.{arith}
use lib.ListN.{length}
use Rattle.laws.specs.Refusals.{first}
use Rattle.head_rules.specs.declared.Form.TheVariants.{Rows, Tiles}
use Rattle.head_rules.specs.Answers.{Head}
use Rattle.line_rules.specs.declared.Replacement.{Replacement}
use Rattle.head_rules.specs.Heads.{SizedUpTo, form_in, form_number, limit, old_head, old_limit, read_head}
use Rattle.head_rules.specs.Whole.{whole_refusal}
use Rattle.head_rules.proofs.Heading.{size_0, size_9}
use Rattle.head_rules.proofs.Limits.{wider}
use Rattle.head_rules.proofs.Theorems.{old_console_knows_no_tiles, old_console_refuses, old_head_empty, stored_heads_keep}
use Rattle.sheet_rules.specs.Rows.{row_out, row_out_up_to, row_refusal, row_refusal_up_to}
use Rattle.sheet_rules.specs.Sheets.{find_refusal, sheet_after, sheet_refusal}

module _ (s : List ℕ) (b l : ℕ) (new : Replacement) where
  pub stored_sheets_keep : (old_head s).refusal ≡ 0
      → (sheet_refusal (read_head s) s b l new ≡ sheet_refusal (old_head s) s b l new)
      × (sheet_after (read_head s) s b l new ≡ sheet_after (old_head s) s b l new)
  stored_sheets_keep e =
      let k = stored_heads_keep s e in
      (ap (λ (h : Head). sheet_refusal h s b l new) k, ap (λ (h : Head). sheet_after h s b l new) k)

  pub old_console_corrects_nothing : (read_head s).refusal ≡ 0 → (read_head s).form ≡ Rows
      → (old_limit < (read_head s).width) ⊎ (old_limit < (read_head s).height)
      → (sheet_refusal (old_head s) s b l new ≡ 9) × (sheet_after (old_head s) s b l new ≡ s)
  unfolding sheet_after sheet_refusal find_refusal whole_refusal first
  old_console_corrects_nothing e f above = rw (old_console_refuses s e f above) (refl, refl)

  pub old_console_corrects_no_tiles : (form_in s).value ≡ form_number Tiles
      → (sheet_refusal (old_head s) s b l new ≡ 8) × (sheet_after (old_head s) s b l new ≡ s)
  unfolding sheet_after sheet_refusal find_refusal whole_refusal first
  old_console_corrects_no_tiles e = rw (old_console_knows_no_tiles s e) (refl, refl)

module _ (w h row : ℕ) (blocks out : List ℕ) where
  pub stored_rows_keep : SizedUpTo old_limit w h
      → (row_refusal w h row (length blocks) (length out) ≡ row_refusal_up_to old_limit w h row (length blocks) (length out))
      × (row_out w h row blocks out ≡ row_out_up_to old_limit w h row blocks out)
  unfolding row_out_up_to row_refusal_up_to
  stored_rows_keep z = rw (size_0 limit w h (wider (omega arith) z), size_0 old_limit w h z) (refl, refl)

  pub old_console_draws_nothing : (SizedUpTo old_limit w h → ⊥)
      → (row_refusal_up_to old_limit w h row (length blocks) (length out) ≡ 9) × (row_out_up_to old_limit w h row blocks out ≡ out)
  unfolding row_out_up_to row_refusal_up_to first
  old_console_draws_nothing n = rw (size_9 old_limit w h n) (refl, refl)

-- a console of before shows a sheet by the sides that it read of the head: of a head that it refuses it shows nothing
module _ (s : List ℕ) (row : ℕ) (blocks out : List ℕ) where
  pub old_console_shows_nothing : (old_head s).refusal ≢ 0
      → (row_refusal_up_to old_limit (old_head s).width (old_head s).height row (length blocks) (length out) ≡ 9)
      × (row_out_up_to old_limit (old_head s).width (old_head s).height row blocks out ≡ out)
  old_console_shows_nothing ne =
      let h = old_head_empty s ne in
      old_console_draws_nothing (old_head s).width (old_head s).height row blocks out
      (λ z. omega (arith, z.wide, ap (λ (x : Head). x.width) h))
