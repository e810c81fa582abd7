-- WHAT HOLDS THE DEFINITIONS OF THE TEXTS: texts written out.
-- Assumes nothing.
use mathlib.Core.Path.{◌≡◌, refl}
use mathlib.Core.Bool.{true, false}
use mathlib.Core.List.{[], ◌∷◌, ◌++◌, map}
use Rattle.laws.specs.Text.{ascii, decimal, digits_in}
use Rattle.laws.proofs.Attested.{text}
use Rattle.listing_rules.specs.Text.{block_text, channels, opacity_mark, sheet_text}

pub record Texts : Type 0 where
  pub marks : map opacity_mark (true ∷ false ∷ []) ≡ ascii "o-"
  pub texts : sheet_text 5 4096 ++ block_text 12 6 (1 ∷ 20 ∷ 3 ∷ 255 ∷ []) true ++ block_text 0 4 (100 ∷ 0 ∷ 7 ∷ 8 ∷ []) false
      ≡ text ("sheet 5 4096" ∷ "12 6 1 20 3 255 o" ∷ "0 4 100 0 7 8 -" ∷ [])

pub texts_hold : Texts
unfolding text ascii sheet_text block_text channels opacity_mark decimal digits_in
texts_hold = record { marks = refl; texts = refl }
