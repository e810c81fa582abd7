-- What reading a pixel promises: the contract and `determined_pixel` say the same.
-- Assumes nothing.
use Rattle.std.specs.Prelude.{◌≡◌, List, ℕ, Result}
use Rattle.refusals.specs.Answers.{answer_of}
use Rattle.refusals.specs.declared.Refusal.{Refusal}
use Rattle.pixel_rules.specs.Pixels.{no_pixel, pixel_read}

abbrev pub ReadsPixel : List ℕ → ℕ → Result (List ℕ) Refusal → Type 0
ReadsPixel block pixel answer = answer_of no_pixel answer ≡ pixel_read block pixel
