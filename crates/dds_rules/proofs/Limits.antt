-- MAPS UP TO 16,384, AND TILES, IN DDS FILES: what a console of before accepted is imported and exported as it was; for a larger map such a
-- console answers 9, for a sheet of form 2 it answers 8, and it leaves the output.
-- Assumes nothing.
use mathlib.Core.Path.{◌≡◌, refl, ap}
use mathlib.Core.Logic.{◌⊎◌}
use mathlib.Core.Bool.{true}
use mathlib.Core.List.{List}
use Prim.Native.Nat.{ℕ, ◌<◌, ◌≤◌}
use native.Mathlib.Omega.{arith}
use lib.ListN.{length}
use Rattle.laws.specs.Refusals.{first}
use Rattle.head_rules.specs.declared.ColourSpace.{ColourSpace}
use Rattle.head_rules.specs.declared.Form.TheVariants.{Rows, Tiles}
use Rattle.head_rules.specs.Answers.{Head}
use Rattle.head_rules.specs.Colours.{colour_of}
use Rattle.head_rules.specs.Geometry.{whole_length}
use Rattle.head_rules.specs.Heads.{SizedUpTo, form_in, form_number, head_as, head_of, limit, old_head, old_limit, read_head}
use Rattle.head_rules.specs.Whole.{whole_refusal}
use Rattle.head_rules.proofs.Heading.{size_0, size_9}
use Rattle.head_rules.proofs.Limits.{wider}
use Rattle.head_rules.proofs.Theorems.{old_console_knows_no_tiles, old_console_refuses, stored_rows_keep}
use Rattle.dds_rules.specs.Header.{field_in, height, is_texture, width}
use Rattle.dds_rules.specs.Files.{export_after, export_refusal, file_refusal_up_to, import_after, import_after_up_to, sheet_head}
use Rattle.dds_rules.specs.Files.{export_length, file_length, head_made, import_answer, import_length, import_refusal, import_refusal_up_to}
use Rattle.dds_rules.specs.Files.{length_as, numbered_after, numbered_refusal}
use Rattle.dds_rules.proofs.Numbered.{numbered_as}

module _ (dds out : List ℕ) where
  pub stored_files_keep : SizedUpTo old_limit (field_in dds width) (field_in dds height)
      → (import_refusal dds (length out) ≡ import_refusal_up_to old_limit dds (length out)) × (import_after dds out ≡ import_after_up_to old_limit dds out)
  unfolding import_after_up_to import_refusal_up_to file_refusal_up_to
  stored_files_keep z = rw (size_0 limit _ _ (wider (omega arith) z), size_0 old_limit _ _ z) (refl, refl)

  pub old_console_imports_nothing : is_texture dds ≡ true → (SizedUpTo old_limit (field_in dds width) (field_in dds height) → ⊥)
      → (import_refusal_up_to old_limit dds (length out) ≡ 9) × (import_after_up_to old_limit dds out ≡ out)
  unfolding import_after_up_to import_refusal_up_to file_refusal_up_to first
  old_console_imports_nothing t n = rw (t, size_9 old_limit _ _ n) (refl, refl)

-- what import answers, and the length that it needs: of a file that such a console took they are what they were; a larger one it answered with 9
-- and zeros
module _ (dds : List ℕ) where
  pub stored_answers_keep : SizedUpTo old_limit (field_in dds width) (field_in dds height) → (room : ℕ)
      → import_answer dds room ≡ head_as (import_refusal_up_to old_limit dds room) (head_made dds)
  unfolding import_answer import_refusal_up_to file_refusal_up_to
  stored_answers_keep z room = rw (size_0 limit _ _ (wider (omega arith) z), size_0 old_limit _ _ z)

  pub old_console_answers_none : is_texture dds ≡ true → (SizedUpTo old_limit (field_in dds width) (field_in dds height) → ⊥) → (room : ℕ)
      → head_as (import_refusal_up_to old_limit dds room) (head_made dds) ≡ head_of 9 0 0 0
  unfolding import_refusal_up_to file_refusal_up_to first
  old_console_answers_none t n room = rw (t, size_9 old_limit _ _ n)

  pub stored_import_lengths : SizedUpTo old_limit (field_in dds width) (field_in dds height)
      → import_length dds ≡ length_as (file_refusal_up_to old_limit dds) (whole_length (head_made dds))
  unfolding import_length file_refusal_up_to
  stored_import_lengths z = rw (size_0 limit _ _ (wider (omega arith) z), size_0 old_limit _ _ z)

  pub old_console_needs_none : is_texture dds ≡ true → (SizedUpTo old_limit (field_in dds width) (field_in dds height) → ⊥)
      → length_as (file_refusal_up_to old_limit dds) (whole_length (head_made dds)) ≡ length_as 9 0
  unfolding file_refusal_up_to first
  old_console_needs_none t n = rw (t, size_9 old_limit _ _ n)

module _ (s : List ℕ) (c : ColourSpace) (out : List ℕ) where
  pub stored_sheets_export : (old_head s).refusal ≡ 0
      → (export_refusal (sheet_head s) s (length out) ≡ export_refusal (old_head s) s (length out))
      × (export_after (sheet_head s) c s out ≡ export_after (old_head s) c s out)
  stored_sheets_export e =
      let k = stored_rows_keep s e in
      (ap (λ (h : Head). export_refusal h s (length out)) k, ap (λ (h : Head). export_after h c s out) k)

  pub old_console_exports_nothing : (read_head s).refusal ≡ 0 → (read_head s).form ≡ Rows
      → (old_limit < (read_head s).width) ⊎ (old_limit < (read_head s).height)
      → (export_refusal (old_head s) s (length out) ≡ 9) × (export_after (old_head s) c s out ≡ out)
  unfolding export_after export_refusal whole_refusal first
  old_console_exports_nothing e f above = rw (old_console_refuses s e f above) (refl, refl)

  pub old_console_exports_no_tiles : (form_in s).value ≡ form_number Tiles
      → (export_refusal (old_head s) s (length out) ≡ 8) × (export_after (old_head s) c s out ≡ out)
  unfolding export_after export_refusal whole_refusal first
  old_console_exports_no_tiles e = rw (old_console_knows_no_tiles s e) (refl, refl)

-- the length that export needs, and export under a number, which for a number that is a colour space's is export
module _ (s : List ℕ) where
  pub stored_export_lengths : (old_head s).refusal ≡ 0 → export_length s ≡ length_as (whole_refusal (old_head s) s) (file_length (old_head s))
  unfolding export_length
  stored_export_lengths e = ap (λ (h : Head). length_as (whole_refusal h s) (file_length h)) (stored_rows_keep s e)

  pub old_console_needs_nothing : (read_head s).refusal ≡ 0 → (read_head s).form ≡ Rows
      → (old_limit < (read_head s).width) ⊎ (old_limit < (read_head s).height)
      → length_as (whole_refusal (old_head s) s) (file_length (old_head s)) ≡ length_as 9 0
  unfolding whole_refusal first
  old_console_needs_nothing e f above = rw (old_console_refuses s e f above)

  pub stored_sheets_export_numbered : (old_head s).refusal ≡ 0 → (n : ℕ) → n ≤ 2 → (out : List ℕ)
      → (numbered_refusal s n (length out) ≡ export_refusal (old_head s) s (length out))
      × (numbered_after s n out ≡ export_after (old_head s) (colour_of n) s out)
  unfolding numbered_refusal numbered_after
  stored_sheets_export_numbered e n l out = rw (numbered_as s n l) (stored_sheets_export s (colour_of n) out e)
