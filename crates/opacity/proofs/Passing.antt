-- The pixels of a block pass one by one, drawn or not.
-- Assumes nothing.
use mathlib.Core.Path.{◌≡◌, refl, ap, ◌∙◌}
use mathlib.Core.Bool.{Bool, true, false}
use mathlib.Core.List.{List, []}
use Prim.Native.Nat.{ℕ, ◌/◌, ◌%◌, ◌≤◌, ◌<◌}
use borrow.Author.Tests.{eq-eqb, le-leb, le-ltb, lt-leb, lt-ltb, ltb-false, ltb-true, ne_eqb}
use lib.Dec.{eqb, leb, lit<, ltb}
use lib.ListN.{get_or}
use Rattle.laws.specs.Tables.{implies, table}
use Rattle.laws.proofs.Part.{get_d_table}
use Rattle.laws.proofs.Scan.{scan_same}
use Rattle.bc7_format.specs.Lines.{pixel, pixels}
use Rattle.opacity_rules.specs.Opacity.{is_visible, opaque, passes}
use Rattle.opacity.specs.Drawn.{alpha_passes, opaque_drawn}

-- what is drawn is what the block draws
pub drawn_is : (columns rows : ℕ) (bs : List ℕ) → opaque_drawn columns rows (pixels bs) ≡ opaque columns rows bs
unfolding opaque_drawn opaque alpha_passes passes pixels
drawn_is columns rows bs =
    scan_same 16 _ _ (λ q h. ap (λ (a : ℕ). implies (is_visible columns rows q) (eqb a 255))
    (ap (λ (px : List ℕ). get_or px 3 0) (get_d_table 16 (λ q. table 4 (pixel bs q)) [] q h) ∙ get_d_table 4 (pixel bs q) 0 3 (lit< tt)))

-- a pixel with alpha 255 passes, and so does one beyond the columns; of any other the row decides
asks_true : (b : Bool) → true ≡ implies b true
unfolding implies
asks_true true = refl
asks_true false = refl

module _ (columns rows alpha q : ℕ) where
  pub full_passes : alpha ≡ 255 → true ≡ alpha_passes columns rows alpha q
  unfolding alpha_passes
  full_passes e = rw (eq-eqb alpha 255 e) (asks_true _)

  pub beyond_passes : columns ≤ q % 4 → true ≡ alpha_passes columns rows alpha q
  unfolding alpha_passes is_visible implies
  beyond_passes h = rw (le-ltb (q % 4) columns h)

  pub by_the_row : (alpha ≡ 255 → ⊥) → q % 4 < columns → leb rows (q / 4) ≡ alpha_passes columns rows alpha q
  unfolding alpha_passes is_visible implies
  by_the_row n h = rw (lt-ltb (q % 4) columns h, ne_eqb alpha 255 n) (go (ltb (q / 4) rows) refl)
    where
      go : (b : Bool) → ltb (q / 4) rows ≡ b → leb rows (q / 4) ≡ implies b false
      go true e = lt-leb rows (q / 4) (ltb-true _ _ e)
      go false e = le-leb rows (q / 4) (ltb-false _ _ e)
