-- What the calls on floats promise, under one name each: contracts and `determined-*` say the same.
-- Assumes nothing.
use Rattle.std.specs.Prelude.{◌≡◌, List, ℕ, Float, Result, ⊤, length}
use Rattle.float_rules.specs.declared.FloatPixel.{FloatPixel}
use Rattle.float_rules.specs.Floats.{channel_float, channel_found, channel_found_of, pixel_floats, floats_after, floats_refusal}
use Rattle.refusals.specs.Answers.{answer_of, number_of}
use Rattle.refusals.specs.declared.Refusal.{Refusal}

abbrev pub FloatsChannel : ℕ → Float → Type 0
FloatsChannel channel answer = answer ≡ channel_float channel

abbrev pub FloatsPixel : List ℕ → FloatPixel → Type 0
FloatsPixel pixel answer = answer ≡ pixel_floats pixel

abbrev pub FindsChannel : ℕ → Result ℕ Refusal → Type 0
FindsChannel bits answer = answer_of 0 answer ≡ channel_found bits

abbrev pub FindsChannelOf : Float → Result ℕ Refusal → Type 0
FindsChannelOf value answer = answer_of 0 answer ≡ channel_found_of value

-- the answer, and every float of the row
abbrev pub FloatsRow : List ℕ → List Float → Result ⊤ Refusal → List Float → Type 0
FloatsRow pixels before answer after = (number_of answer ≡ floats_refusal (length pixels) (length before)) × (after ≡ floats_after pixels before)
