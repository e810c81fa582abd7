-- WHAT HOLDS THE DEFINITIONS OF FLOATS: bits that are written down from the request and from the public format of f32 (a sign, eight bits of
-- exponent, twenty-three of digits), and what is refused.
-- Assumes nothing.
use mathlib.Core.Path.{◌≡◌, refl, ap}
use mathlib.Core.Bool.{false, true}
use mathlib.Core.List.{List, [], ◌∷◌, map}
use Prim.Native.Nat.{ℕ}
use lib.Count.{count_trailing_zeros}
use lib.Ieee.{Float, add, binary32, climb, div, fin, inf, is_nan, mul, nan, odd, of_bits, of_fields, of_int, round, size, span, sum, to_bits}
use lib.Ieee.{to_unsigned, units}
use lib.IntN.{negsuc, pos}
use lib.ListN.{replicate}
use Rattle.std.specs.Prelude.{Ok, Err}
use Rattle.refusals.specs.Answers.{Answer}
use Rattle.refusals.specs.declared.Refusal.TheVariants.{NotAChannel}
use Rattle.laws.proofs.Tests.{eqb_of}
use Rattle.laws.specs.Counting.{kept}
use Rattle.laws.specs.Refusals.{first}
use Rattle.laws.specs.Tables.{table, table_from}
use Rattle.float_rules.specs.Floats.{back_refusal, channel_bits, channel_float, channel_found, channel_found_of, channels_with, floats_of, no_channel}
use Rattle.float_rules.specs.Floats.{pixel_floats, floats_after, floats_refusal}
use Rattle.float_rules.specs.Promises.{FindsChannel, FindsChannelOf, FloatsChannel, FloatsRow}

-- 0 gives 0.0 and 255 gives 1.0; 51, 102, 153, 204 give 0.2, 0.4, 0.6, 0.8 and 85, 170 the thirds, as every f32 of these is printed. A
-- product with 1 / 255 is rounded twice, and of 3 and 254 it is the next float
abbrev product : ℕ → ℕ
product c = to_bits binary32 (mul binary32 (of_int binary32 (pos c)) (div binary32 (of_int binary32 (pos 1)) (of_int binary32 (pos 255))))

pub bits_of_channels :
    (map channel_bits (0 ∷ 255 ∷ 51 ∷ 102 ∷ 153 ∷ 204 ∷ 85 ∷ 170 ∷ 1 ∷ 3 ∷ 254 ∷ [])
    ≡ 0 ∷ 0x3f80_0000 ∷ 0x3e4c_cccd ∷ 0x3ecc_cccd ∷ 0x3f19_999a ∷ 0x3f4c_cccd ∷ 0x3eaa_aaab ∷ 0x3f2a_aaab
    ∷ 0x3b80_8081 ∷ 0x3c40_c0c1 ∷ 0x3f7e_feff ∷ [])
    × (map product (3 ∷ 254 ∷ []) ≡ 0x3c40_c0c2 ∷ 0x3f7e_ff00 ∷ [])
unfolding channel_bits channel_float of_int to_bits mul div round size span climb units odd of_fields count_trailing_zeros
bits_of_channels = (refl, refl)

-- red, green, blue and alpha stand in their places: 0.2, 1.0, 0.0, 0.6
abbrev a_pixel : List ℕ
a_pixel = 51 ∷ 255 ∷ 0 ∷ 153 ∷ []

abbrev its_bits : List ℕ
its_bits = 0x3e4c_cccd ∷ 0x3f80_0000 ∷ 0 ∷ 0x3f19_999a ∷ []

pub pixel_in_order :
    let p = pixel_floats a_pixel in
    to_bits binary32 p.red ∷ to_bits binary32 p.green ∷ to_bits binary32 p.blue ∷ to_bits binary32 p.alpha ∷ [] ≡ its_bits
unfolding channel_float of_int to_bits div round size span climb units odd of_fields count_trailing_zeros
pixel_in_order = refl

-- a row has one float for each byte, the first byte first; with room for one more or one less it is refused, and left as it was
abbrev room : ℕ → List Float
room n = table n (λ i. nan)

pub row_in_order :
    (map (to_bits binary32) (floats_after a_pixel (room 4)) ≡ its_bits)
    × (floats_after a_pixel (room 3) ≡ room 3) × (floats_after a_pixel (room 5) ≡ room 5) × (floats_after [] [] ≡ [])
    × (map (floats_refusal 4) (3 ∷ 4 ∷ 5 ∷ []) ≡ 11 ∷ 0 ∷ 11 ∷ [])
unfolding floats_after floats_refusal floats_of table table_from first
    channel_float of_int to_bits div round size span climb units odd of_fields count_trailing_zeros
row_in_order = (refl, refl, refl, refl, refl)

-- THE WAY BACK
-- refused: -0.0; the least float above 0; both neighbours of 0.2, and of 1.0; 0.5, which lies between two channels; 255.0; -1.0; both
-- infinities; NaNs of either sign. Those about 0.2, and 0.5, have a nearest channel all the same: 255 times the value, and 0.5, cut
abbrev nearest : ℕ → ℕ
nearest b =
    to_unsigned 8 (add binary32 (mul binary32 (of_bits binary32 b) (of_int binary32 (pos 255))) (of_bits binary32 0x3f00_0000))

pub others_refused :
    (map channel_found
    (0x8000_0000 ∷ 1 ∷ 0x3e4c_cccc ∷ 0x3e4c_ccce ∷ 0x3f7f_ffff ∷ 0x3f80_0001 ∷ 0x3f00_0000 ∷ 0x437f_0000 ∷ 0xbf80_0000
    ∷ 0x7f80_0000 ∷ 0xff80_0000 ∷ 0x7fc0_0000 ∷ 0xffc0_0000 ∷ [])
    ≡ replicate 13 no_channel)
    × (map nearest (0x3e4c_cccc ∷ 0x3e4c_ccce ∷ 0x3f00_0000 ∷ []) ≡ 51 ∷ 51 ∷ 128 ∷ [])
unfolding channel_found back_refusal channels_with kept first channel_bits channel_float
    of_int to_unsigned of_bits to_bits add sum mul div round size span climb units odd of_fields count_trailing_zeros
others_refused = (refl, refl)

abbrev found : ℕ → Answer ℕ
found c = record { refusal = 0; value = c }

pub channels_found : map channel_found (0 ∷ 0x3f80_0000 ∷ 0x3e4c_cccd ∷ 0x3f7e_feff ∷ []) ≡ found 0 ∷ found 255 ∷ found 51 ∷ found 254 ∷ []
unfolding channel_found back_refusal channels_with kept first
    channel_bits channel_float of_int to_bits div round size span climb units odd of_fields count_trailing_zeros
channels_found = refl

-- the same of floats: 0.0, -0.0, 1.0, 0.5, an infinity and a NaN
pub of_floats :
    map channel_found_of (fin false 0 (pos 0) ∷ fin true 0 (pos 0) ∷ fin false 1 (pos 0) ∷ fin false 1 (negsuc 0) ∷ inf false ∷ nan ∷ [])
    ≡ found 0 ∷ no_channel ∷ found 255 ∷ no_channel ∷ no_channel ∷ no_channel ∷ []
unfolding channel_found_of is_nan channel_found back_refusal channels_with kept first
    channel_bits channel_float of_int to_bits div round size span climb units odd of_fields count_trailing_zeros
of_floats = refl

-- THE PROMISES admit these answers, and not those of another channel, of a pattern that is none, and of a row that is refused
pub promises_hold :
    FloatsChannel 255 (fin false 1 (pos 0)) × (FloatsChannel 254 (fin false 1 (pos 0)) → ⊥)
    × FindsChannel 0x3e4c_cccd (Ok 51) × (FindsChannel 0x8000_0000 (Ok 0) → ⊥) × FindsChannelOf nan (Err NotAChannel)
    × FloatsRow (255 ∷ []) (room 1) (Ok tt) (fin false 1 (pos 0) ∷ []) × (FloatsRow (255 ∷ []) (room 2) (Ok tt) (room 2) → ⊥)
unfolding channel_found_of is_nan channel_found back_refusal channels_with kept first floats_after floats_refusal floats_of table table_from
    channel_bits channel_float of_int to_bits div round size span climb units odd of_fields count_trailing_zeros
promises_hold = (
  refl,
  λ e. eqb_of _ _ (ap (to_bits binary32) e),
  refl,
  λ e. eqb_of _ _ (ap (λ (a : Answer ℕ). a.refusal) e),
  refl,
  (refl, refl),
  λ p. eqb_of _ _ p.0,
)
