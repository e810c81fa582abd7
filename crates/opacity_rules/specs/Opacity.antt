-- WHICH BLOCKS ARE OPAQUE: those whose every visible pixel has alpha 255. Of a block at the edge of a sheet not all pixels are visible.
-- Assumes nothing.
use Rattle.std.specs.Prelude.{ℕ, zero, suc, ◌+◌, ◌*◌, ◌/◌, ◌%◌, ◌<◌, ◌≡◌, Bool, true, List, eqb, ltb}
use Rattle.laws.specs.Tables.{below, both, implies, pick}
use Rattle.bc7_format.specs.Lines.{pixel}
use Rattle.bc7_format.specs.Modes.{mode_of}
use Rattle.head_rules.specs.Geometry.{across, side_shown}

-- is pixel q within the first so many columns and rows of a block
unfoldable pub is_visible : ℕ → ℕ → ℕ → Bool
is_visible columns rows q = both (ltb (q % 4) columns) (ltb (q / 4) rows)

-- a visible pixel passes where its alpha, channel 3, is 255; one that isn't visible always does
unfoldable pub passes : ℕ → ℕ → List ℕ → ℕ → Bool
passes columns rows block q = implies (is_visible columns rows q) (eqb (pixel block q 3) 255)

-- THE FULL ANSWER: all sixteen pass
unfoldable pub opaque : ℕ → ℕ → List ℕ → Bool
opaque columns rows block = below 16 (passes columns rows block)

-- the same of block n of a sheet of w by h pixels, by the columns and rows that the sheet shows of it; n counts row by row
unfoldable pub opaque_in : ℕ → ℕ → ℕ → List ℕ → Bool
opaque_in w h n block = opaque (side_shown w (n % across w)) (side_shown h (n / across w)) block

-- THE SAME IN WORDS: the pixel in column x and row y has the number 4 · y + x
abbrev pub FullAlpha : ℕ → ℕ → List ℕ → Type 0
FullAlpha columns rows block = (x y : ℕ) → x < 4 → y < 4 → x < columns → y < rows → pixel block (4 * y + x) 3 ≡ 255

-- in a sheet: the pixel lies within the picture
abbrev pub FullAlphaIn : ℕ → ℕ → ℕ → List ℕ → Type 0
FullAlphaIn w h n block =
    (x y : ℕ) → x < 4 → y < 4 → 4 * (n % across w) + x < w → 4 * (n / across w) + y < h → pixel block (4 * y + x) 3 ≡ 255

-- THE SHORT WAY: n tests from q on, up to the first that fails; and modes 0 to 3 by the mode alone
abbrev pub up_to_first : ℕ → ℕ → (ℕ → Bool) → Bool
up_to_first q zero f = true
up_to_first q (suc n) f = both (f q) (up_to_first (suc q) n f)

unfoldable pub opaque_short : ℕ → ℕ → List ℕ → Bool
opaque_short columns rows block = pick (ltb (mode_of block) 4) true (up_to_first 0 16 (passes columns rows block))
