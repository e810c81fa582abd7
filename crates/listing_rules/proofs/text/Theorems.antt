-- Document 01's example of a listing.
-- Assumes nothing.
use mathlib.Core.Path.{refl, ◌≡◌}
use mathlib.Core.Bool.{false}
use mathlib.Core.List.{List, [], ◌∷◌, ◌++◌}
use Prim.Native.Nat.{ℕ}
use Rattle.laws.specs.Text.{ascii, decimal, digits_in, newline}
use Rattle.listing_rules.specs.Text.{block_text, channels, opacity_mark, sheet_text}

pub document_example : ◌≡◌ {A = List (List ℕ)}
    (sheet_text 5 4 ∷ block_text 0 5 (255 ∷ 0 ∷ 0 ∷ 0 ∷ []) false ∷ block_text 1 8 (0 ∷ 0 ∷ 0 ∷ 0 ∷ []) false ∷ [])
    ((ascii "sheet 5 4" ++ (newline ∷ [])) ∷ (ascii "0 5 255 0 0 0 -" ++ (newline ∷ [])) ∷ (ascii "1 8 0 0 0 0 -" ++ (newline ∷ [])) ∷ [])
unfolding sheet_text block_text channels opacity_mark decimal digits_in ascii
document_example = refl
