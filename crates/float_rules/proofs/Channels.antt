-- THE 256 FLOATS, by one computed test over the channels: they rise, so that no two are alike.
-- Assumes nothing.
use mathlib.Core.Path.{◌≡◌, refl, ap}
use mathlib.Core.Logic.{⊎_elim}
use mathlib.Core.Bool.{Bool, not}
use Prim.Native.Nat.{ℕ, suc, ◌<◌, ◌≤◌}
use native.Mathlib.Decide.{le_ind}
use native.Mathlib.Omega.{arith}
use lib.Count.{count_trailing_zeros}
use lib.Dec.{T, ltb, ltb→lt}
use lib.Ieee.{climb, div, is_nan, lt, odd, of_fields, of_int, round, size, span, to_bits, units}
use Rattle.laws.specs.Tables.{below, both}
use Rattle.laws.proofs.Cases.{lt_or}
use Rattle.laws.proofs.Tests.{at, both_left, both_right}
use Rattle.float_rules.specs.Floats.{channel_bits, channel_float}
use Rattle.float_rules.proofs.Order.{counted, counted_no_nan, lt_trans}

-- the float of c is finite and not negative, and below that of c + 1, by its bits and by its value
step : ℕ → Bool
step c =
    both (counted (channel_float c)) (both (ltb (channel_bits c) (channel_bits (suc c))) (lt (channel_float c) (channel_float (suc c))))

steps : T (below 256 step)
unfolding step channel_bits channel_float of_int to_bits div round size span climb units odd of_fields count_trailing_zeros lt
steps = tt

-- what the test says of a channel
pub record Step (c : ℕ) : Type 0 where
  pub plain : T (counted (channel_float c))
  pub by_bits : channel_bits c < channel_bits (suc c)
  pub by_value : T (lt (channel_float c) (channel_float (suc c)))

pub step_at : (c : ℕ) → c < 256 → Step c
unfolding step
step_at c h =
    let t = at 256 step steps c h in
    let u = both_right (counted (channel_float c)) _ t in
    record {
      plain = both_left (counted (channel_float c)) _ t;
      by_bits = ltb→lt _ _ (both_left (ltb (channel_bits c) (channel_bits (suc c))) _ u);
      by_value = both_right (ltb (channel_bits c) (channel_bits (suc c))) _ u;
    }

pub no_nan : (c : ℕ) → c < 256 → T (not (is_nan (channel_float c)))
no_nan c h = counted_no_nan (channel_float c) (step_at c h).plain

-- what holds from each number below n to the next holds from each to each higher one
rising : (n : ℕ) (R : ℕ → ℕ → Type 0) → ((c : ℕ) → suc c < n → R c (suc c)) → ((c d : ℕ) → c < d → suc d < n → R c d → R c (suc d))
    → (c d : ℕ) → c < d → d < n → R c d
rising n R next more c d h = le_ind (λ (m : ℕ). m < n → R c m) (next c) (λ m l e k. more c m l k (e (omega arith))) d h

pub bits_rise : (c d : ℕ) → c < d → d < 256 → channel_bits c < channel_bits d
bits_rise =
    rising 256 (λ c d. channel_bits c < channel_bits d) (λ c h. (step_at c (omega arith)).by_bits)
    (λ c d l h e. omega (arith, (step_at d (omega arith)).by_bits))

pub floats_rise : (c d : ℕ) → c < d → d < 256 → T (lt (channel_float c) (channel_float d))
floats_rise =
    rising 256 (λ c d. T (lt (channel_float c) (channel_float d))) (λ c h. (step_at c (omega arith)).by_value)
    (λ c d l h e. lt_trans (channel_float c) (channel_float d) (channel_float (suc d)) (step_at c (omega arith)).plain
    (step_at d (omega arith)).plain (step_at (suc d) h).plain e (step_at d (omega arith)).by_value)

pub bits_differ : (c d : ℕ) → c < 256 → d < 256 → channel_bits c ≡ channel_bits d → c ≡ d
bits_differ c d h k e =
    ⊎_elim (λ l. absurd (let never : ⊥ = omega (arith, bits_rise c d l k) in never))
    (λ l. ⊎_elim (λ g. absurd (let never : ⊥ = omega (arith, bits_rise d c g h) in never)) (λ g. omega arith) (lt_or d c)) (lt_or c d)

-- 0.0 is the lowest and 1.0 the highest
pub zero_is : channel_bits 0 ≡ 0
unfolding channel_bits channel_float of_int to_bits div round size span climb units odd of_fields count_trailing_zeros
zero_is = refl

pub one_is : channel_bits 255 ≡ 0x3f80_0000
unfolding channel_bits channel_float of_int to_bits div round size span climb units odd of_fields count_trailing_zeros
one_is = refl

pub up_to_one : (c : ℕ) → c < 256 → channel_bits c ≤ 0x3f80_0000
up_to_one c h =
    ⊎_elim (λ l. omega (arith, bits_rise c 255 l (omega arith), one_is))
    (λ l. let last : c ≡ 255 = omega arith in omega (arith, ap channel_bits last, one_is)) (lt_or c 255)
