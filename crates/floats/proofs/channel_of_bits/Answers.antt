-- `channel_of_bits` meets its contract: the candidate is the channel, or there is none.
-- Assumes nothing.
use mathlib.Core.Path.{◌≡◌, sym, ap, ◌∙◌, subst}
use mathlib.Core.Bool.{not}
use Prim.Native.Nat.{ℕ}
use native.Mathlib.Omega.{arith}
use lib.Dec.{T}
use lib.Ieee.{Float, binary32, is_nan, to_bits}
use Rattle.float_rules.specs.Floats.{channel_bits}
use Rattle.float_rules.proofs.Channels.{no_nan}
use Rattle.floats.specs.Candidates.{candidate_of}
use Rattle.floats.proofs.Candidates.{candidate_below, candidate_found, candidate_none}
use Rattle.floats.proofs.channel_of_bits.Goals as goal

pub float_to_bits-channel_float : goal.float_to_bits-channel_float
float_to_bits-channel_float c =
    subst (λ (x : Float). T (not (is_nan x))) (sym c.channel_float.ensures)
    (no_nan c.candidate-channel.result (omega (arith, c.candidate-channel.ensures, candidate_below c.args.bits)))

-- the bits that are compared are those of the candidate's float
compared : (c : goal.After-channel_float) → to_bits binary32 c.channel_float.result ≡ channel_bits (candidate_of c.args.bits)
unfolding channel_bits
compared c = ap (to_bits binary32) c.channel_float.ensures ∙ ap channel_bits c.candidate-channel.ensures

pub returns-then-channel_float-bits : goal.returns-then-channel_float-bits
returns-then-channel_float-bits c =
    let at = c.before in
    sym (candidate_none at.args.bits (λ e. c.if-channel_float-bits.true (compared at ∙ e)))

pub returns : goal.returns
returns c =
    let at = c.before in
    ap (λ (n : ℕ). record { refusal = 0; value = n }) at.candidate-channel.ensures
    ∙ sym (candidate_found at.args.bits (sym (compared at) ∙ c.if-channel_float-bits.false))
