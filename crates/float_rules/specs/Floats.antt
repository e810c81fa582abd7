-- PIXELS AS FLOATS: a channel divided by 255 in one f32 division; and THE WAY BACK: the channel whose float has given bits.
-- Assumes nothing.
use Rattle.std.specs.Prelude.{◌≡◌, not, List, [], ◌∷◌, ℕ, ◌<◌, eqb, Float, pos, get_or, length}
use Rattle.std.specs.Float.{binary32}
use Rattle.std.specs.Float.Ieee.{div, is_nan, of_int, to_bits}
use Rattle.float_rules.specs.declared.FloatPixel.{FloatPixel}
use Rattle.laws.specs.Counting.{kept}
use Rattle.laws.specs.Refusals.{Rule, first, refuse, unless}
use Rattle.laws.specs.Tables.{pick, table}
use Rattle.refusals.specs.Answers.{Answer}

-- both numbers are f32 values, and one division is rounded once
unfoldable pub channel_float : ℕ → Float
channel_float c = div binary32 (of_int binary32 (pos c)) (of_int binary32 (pos 255))

-- the bits of that division's result
unfoldable pub channel_bits : ℕ → ℕ
channel_bits c = to_bits binary32 (channel_float c)

-- the first n of these channels, in their order
unfoldable pub floats_of : ℕ → List ℕ → List Float
floats_of n channels = table n (λ i. channel_float (get_or channels i 0))

abbrev pub pixel_floats : List ℕ → FloatPixel
pixel_floats rgba = record {
  red = channel_float (get_or rgba 0 0);
  green = channel_float (get_or rgba 1 0);
  blue = channel_float (get_or rgba 2 0);
  alpha = channel_float (get_or rgba 3 0);
}

-- THE WAY BACK, from the bits b: the channels whose float has them. There is never more than one (proofs/Theorems)
unfoldable pub channels_with : ℕ → List ℕ
channels_with b = kept 256 (λ c. eqb (channel_bits c) b)

-- 23 where there is none
unfoldable pub back_refusal : ℕ → ℕ
back_refusal b = first (refuse 23 (eqb (length (channels_with b)) 0) ∷ [])

-- the number, and the channel; 0 where it is refused
unfoldable pub channel_found : ℕ → Answer ℕ
channel_found b = record { refusal = back_refusal b; value = get_or (channels_with b) 0 0 }

abbrev pub no_channel : Answer ℕ
no_channel = record { refusal = 23; value = 0 }

-- from a float: by its bits, which a NaN has not, for each of many patterns is one
unfoldable pub channel_found_of : Float → Answer ℕ
channel_found_of x = pick (is_nan x) no_channel (channel_found (to_bits binary32 x))

-- the refusal in words
pub record IsChannel (b : ℕ) : Type 0 where
  pub channel : ℕ
  pub below : channel < 256
  pub same : channel_bits channel ≡ b

abbrev pub back_rules : ℕ → List Rule
back_rules b = unless 23 (IsChannel b) ∷ []

-- A ROW of n bytes, which are channels, into room for so many floats: 11 unless there is one for each
unfoldable pub floats_refusal : ℕ → ℕ → ℕ
floats_refusal n room = first (refuse 11 (not (eqb room n)) ∷ [])

abbrev pub floats_rules : ℕ → ℕ → List Rule
floats_rules n room = unless 11 (room ≡ n) ∷ []

-- the floats afterwards
unfoldable pub floats_after : List ℕ → List Float → List Float
floats_after pixels before = pick (eqb (floats_refusal (length pixels) (length before)) 0) (floats_of (length pixels) pixels) before
