-- THE SMALL DECODER IS THE MAIN ONE on every block that the profile admits, by what the two promise and not by the format alone; the blocks that
-- it refuses are exactly the others. A sheet that the check accepts is drawn by the small one as by the main one.
-- Assumes nothing.
use mathlib.Core.Path.{◌≡◌, ◌∙◌, ap, sym}
use mathlib.Core.Logic.{◌↔◌}
use mathlib.Core.List.{List}
use Prim.Native.Nat.{ℕ, ◌<◌}
use lib.ListN.{replicate}
use Rattle.std.specs.Prelude.{Result, ⊤}
use Rattle.profile_rules.specs.Profile.{Checked, check_answered}
use Rattle.profile_rules.specs.declared.Breach.{Breach}
use Rattle.head_rules.specs.Geometry.{blocks_of}
use Rattle.head_rules.specs.Heads.{read_head}
use Rattle.sheet_rules.specs.SheetRows.{DecodesSheetRow}
use Rattle.sheet_rules.specs.Sheets.{block_in}
use Rattle.profile_rules.specs.Profile.{Admitted, ChecksProfile, Keeps, checked}
use Rattle.profile_rules.specs.Small.{DecodesSmall, ShowsSmallRow}
use Rattle.profile_rules.proofs.Theorems.{check_accepts_when, kept_row_is_the_row, small_admits_when, small_refuses, small_shows}
use Rattle.bc7.specs.Promises.{DecodesBlock}

-- what the main decoder answers of a block, and what the small one answers and writes
module _ (bs : List ℕ) {shown : List (List ℕ)} (main : DecodesBlock bs shown) {r : ℕ} {px : List (List ℕ)} (small : DecodesSmall bs r px) where
  pub small_is_main : Admitted bs → (r ≡ 0) × (px ≡ shown)
  small_is_main a = let s = small_shows bs a in (small.0 ∙ s.0, small.1 ∙ s.1 ∙ sym main)

  -- any other it refuses, and writes zeros
  pub small_refuses_it : (Admitted bs → ⊥) → (r ≡ 20) × (px ≡ replicate 16 (replicate 4 0))
  small_refuses_it n = let s = small_refuses bs n in (small.0 ∙ s.0, small.1 ∙ s.1)

  -- and it refuses no other
  pub accepted_exactly : (r ≡ 0) ↔ Admitted bs
  accepted_exactly = let w = small_admits_when bs in (λ e. w.0 (sym small.0 ∙ e), λ a. small.0 ∙ w.1 a)

-- A SHEET THAT THE CHECK ACCEPTS: each of its blocks, and every byte of each of its rows, as the second row decoding draws it
module _ (s : List ℕ) (answer : Result ⊤ Breach) (told : ChecksProfile s answer) (taken : (check_answered answer).refusal ≡ 0) where
  keeps : Keeps s
  unfolding checked
  keeps = (check_accepts_when s).0 (ap (λ (c : Checked). c.refusal) (sym told.0) ∙ taken)

  pub checked_blocks_are_main : (b : ℕ) → b < blocks_of (read_head s) → {shown : List (List ℕ)} → DecodesBlock (block_in s b) shown
      → {r : ℕ} {px : List (List ℕ)} → DecodesSmall (block_in s b) r px → (r ≡ 0) × (px ≡ shown)
  checked_blocks_are_main b l main small = small_is_main (block_in s b) main small (keeps.blocks b l)

  pub checked_rows_are_main : (row : ℕ) (before : List ℕ) {a : ℕ} {x : List ℕ} → DecodesSheetRow s row before a x
      → {b : ℕ} {y : List ℕ} → ShowsSmallRow s row before b y → (b ≡ a) × (y ≡ x)
  checked_rows_are_main row before main small =
      let same = kept_row_is_the_row s row before keeps in
      (small.0 ∙ same.0 ∙ sym main.0, small.1 ∙ same.1 ∙ sym main.1)
