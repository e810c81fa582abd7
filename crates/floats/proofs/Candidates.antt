-- A channel is the candidate of its own float's bits, by one computed test over the channels; so the candidate's float has given bits
-- wherever any channel's has.
-- Assumes nothing.
use mathlib.Core.Path.{◌≡◌, refl, sym, ap, ◌∙◌}
use mathlib.Core.Logic.{◌≢◌}
use Prim.Native.Nat.{ℕ, ◌<◌}
use native.Mathlib.Omega.{arith}
use lib.Count.{count_trailing_zeros}
use lib.Dec.{eqb, eqb→eq, ltb}
use lib.Ieee.{binary32, climb, div, odd, of_bits, of_fields, of_int, round, size, span, to_bits, units}
use lib.IntN.{pos}
use Rattle.laws.proofs.Cases.{pick_lt}
use Rattle.laws.proofs.Tests.{at}
use Rattle.float_rules.specs.Floats.{channel_bits, channel_float, channel_found, no_channel}
use Rattle.float_rules.proofs.Back.{found_is, none_is}
use Rattle.floats.specs.Candidates.{candidate_of, times255}

-- the code's 255.0, by its bits
pub divisor : of_bits binary32 0x437f_0000 ≡ of_int binary32 (pos 255)
unfolding of_int of_bits div round size span climb units odd of_fields count_trailing_zeros
divisor = refl

own : (c : ℕ) → c < 256 → candidate_of (channel_bits c) ≡ c
unfolding candidate_of times255 channel_bits channel_float of_int to_bits div round size span climb units odd of_fields count_trailing_zeros
own c h = eqb→eq _ _ (at 256 (λ c. eqb (candidate_of (channel_bits c)) c) tt c h)

pub candidate_below : (b : ℕ) → candidate_of b < 256
unfolding candidate_of times255
candidate_below b =
    pick_lt (ltb b 0x3b80_0000) 0 _ 256 (omega arith) (pick_lt (ltb 0x3f80_0000 b) 0 (times255 b) 256 (omega arith) (omega arith))

-- where its bits are these, it is the channel, and where not, there is none
module _ (b : ℕ) where
  pub candidate_found : channel_bits (candidate_of b) ≡ b → channel_found b ≡ record { refusal = 0; value = candidate_of b }
  candidate_found e = found_is b (record { channel = candidate_of b; below = candidate_below b; same = e })

  pub candidate_none : channel_bits (candidate_of b) ≢ b → channel_found b ≡ no_channel
  candidate_none other =
      none_is b (λ i. other (ap (λ (x : ℕ). channel_bits (candidate_of x)) (sym i.same) ∙ ap channel_bits (own i.channel i.below) ∙ i.same))
