-- COLOUR SPACES BY NUMBER: 0 unspecified, 1 linear, 2 sRGB; 18 for a number above 2.
-- Assumes nothing.
use Rattle.std.specs.Prelude.{ℕ, ◌≡◌, Result, eqb, ltb}
use Rattle.refusals.specs.declared.Refusal.{Refusal}
use Rattle.refusals.specs.Answers.{answer_of}
use Rattle.head_rules.specs.declared.ColourSpace.{ColourSpace}
use Rattle.head_rules.specs.declared.ColourSpace.TheVariants.{Unspecified, Linear, Srgb}
use Rattle.laws.specs.Refusals.{refuse}
use Rattle.laws.specs.Tables.{pick}

abbrev pub colour_number : ColourSpace → ℕ
colour_number Unspecified = 0
colour_number Linear = 1
colour_number Srgb = 2

-- the colour space of a number, and why a number has none
unfoldable pub colour_of : ℕ → ColourSpace
colour_of n = pick (eqb n 2) Srgb (pick (eqb n 1) Linear Unspecified)

unfoldable pub colour_refusal : ℕ → ℕ
colour_refusal n = refuse 18 (ltb 2 n)

-- what is answered of a number: both at once
abbrev pub FindsColour : ℕ → Result ColourSpace Refusal → Type 0
FindsColour n answer = answer_of Unspecified answer ≡ record { refusal = colour_refusal n; value = colour_of n }
