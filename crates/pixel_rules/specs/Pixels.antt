-- READING ONE PIXEL: what the format shows there, and 21 where there is no such pixel. A reserved block is a block, and shows 0 0 0 0.
-- Assumes nothing.
use Rattle.std.specs.Prelude.{not, List, [], ◌∷◌, ℕ, ◌<◌, eqb, ltb, replicate}
use Rattle.refusals.specs.Answers.{Answer}
use Rattle.laws.specs.Refusals.{Rule, first, refuse, unless}
use Rattle.laws.specs.Tables.{pick, table}
use Rattle.bc7_format.specs.Lines.{pixel}

-- the number goes by the pixel alone, whatever the block
unfoldable pub pixel_refusal : ℕ → ℕ
pixel_refusal q = first (refuse 21 (not (ltb q 16)) ∷ [])

-- the same in words
abbrev pub pixel_rules : ℕ → List Rule
pixel_rules q = unless 21 (q < 16) ∷ []

-- red, green, blue and alpha of a refusal
abbrev pub no_pixel : List ℕ
no_pixel = replicate 4 0

-- the number, and the four channels as they are shown; zeros where it is refused
unfoldable pub pixel_read : List ℕ → ℕ → Answer (List ℕ)
pixel_read bs q = record { refusal = pixel_refusal q; value = pick (eqb (pixel_refusal q) 0) (table 4 (pixel bs q)) (replicate 4 0) }
