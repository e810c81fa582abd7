-- WHAT HOLDS THE PROMISES OF FLOATS TO C: of each call an accepted example and a refused one, through its promise.
-- Assumes nothing.
use mathlib.Core.Path.{refl}
use mathlib.Core.List.{List, [], ◌∷◌, map}
use Prim.Native.Nat.{ℕ}
use lib.Count.{count_trailing_zeros}
use lib.Ieee.{Float, binary32, climb, div, nan, odd, of_bits, of_fields, of_int, round, size, span, to_bits, units}
use lib.ListN.{replicate}
use Rattle.laws.specs.Counting.{kept}
use Rattle.laws.specs.Refusals.{first}
use Rattle.laws.specs.Tables.{table, table_from}
use Rattle.float_rules.specs.Floats.{back_refusal, channel_bits, channel_float, channel_found, channels_with, floats_after, floats_of, floats_refusal}
use Rattle.rinchovek_rules.specs.Promises.{FindsChannel, FloatsPixel, FloatsRow}
use Rattle.rinchovek_rules.proofs.Attested.{computed}

-- 0.2, 1.0, 0.0, 0.6
abbrev a_pixel : List ℕ
a_pixel = 51 ∷ 255 ∷ 0 ∷ 153 ∷ []

abbrev its_floats : List Float
its_floats = map (of_bits binary32) (0x3e4c_cccd ∷ 0x3f80_0000 ∷ 0 ∷ 0x3f19_999a ∷ [])

-- what stood before
abbrev nans : ℕ → List Float
nans n = replicate n nan

pub record FloatCalls : Type 0 where
  pub floats_pixel : FloatsPixel a_pixel its_floats
  pub finds_channel : FindsChannel 0x3e4c_cccd 9 0 51
  pub finds_channel_not : FindsChannel 0x8000_0000 9 23 9
  pub floats_row : FloatsRow a_pixel (nans 4) 0 its_floats
  pub floats_row_not : FloatsRow a_pixel (nans 5) 11 (nans 5)
  pub floats_row_empty : FloatsRow [] [] 0 []

pub float_calls_hold : FloatCalls
unfolding first kept table table_from floats_after floats_refusal floats_of channel_found back_refusal channels_with
    channel_bits channel_float of_int of_bits to_bits div round size span climb units odd of_fields count_trailing_zeros
float_calls_hold = record {
  floats_pixel = refl;
  finds_channel = computed;
  finds_channel_not = computed;
  floats_row = computed;
  floats_row_not = computed;
  floats_row_empty = computed;
}
