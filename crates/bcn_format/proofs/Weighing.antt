-- THE LAW OF WEIGHTS: what is computed is what the format prints, at each width.
-- Assumes nothing.
use mathlib.Core.Path.{◌≡◌}
use mathlib.Core.Bool.{Bool}
use Prim.Native.Nat.{ℕ, zero, suc, ◌+◌, ◌-◌, ◌*◌, ◌/◌, ◌%◌, ◌^◌, ◌≤◌, ◌<◌}
use native.Mathlib.Omega.{arith}
use lib.Dec.{T, eqb, eqb→eq}
use lib.Pow.{pow_mono}
use Rattle.laws.specs.Tables.{below}
use Rattle.laws.proofs.Tests.{at}
use Rattle.bcn_format.specs.Drawing.{Weighed, weight_of, weights}

-- the indexes of each width
pub two_bits : {i : ℕ} → i < 4 → Weighed 2 i
two_bits h = record { least = omega arith; most = omega arith; within = h }

pub three_bits : {i : ℕ} → i < 8 → Weighed 3 i
three_bits h = record { least = omega arith; most = omega arith; within = h }

pub four_bits : {i : ℕ} → i < 16 → Weighed 4 i
four_bits h = record { least = omega arith; most = omega arith; within = h }

-- how many indexes of b bits there are, in a word of 32
pub record Counted (b : ℕ) : Type 0 where
  pub is : 1 * 2 ^ b % 2 ^ 32 ≡ 2 ^ b
  pub least : 4 ≤ 2 ^ b
  pub most : 2 ^ b ≤ 16

pub counted : (b : ℕ) → 2 ≤ b → b ≤ 4 → Counted b
counted b h l =
    let low : 4 ≤ 2 ^ b = pow_mono {i = 2} h in
    let high : 2 ^ b ≤ 16 = pow_mono {j = 4} l in
    record { is = omega arith; least = low; most = high }

-- with n weights, weight i is the whole part of (64 i + h) / (n - 1), where h is the whole part of (n - 1) / 2
unfoldable pub computed : ℕ → ℕ → ℕ
computed n i = (64 * i + (n - 1) / 2) / (n - 1)

-- one test of all 28
agree : ℕ → Bool
agree b = below (2 ^ b) (λ i. eqb (computed (2 ^ b) i) (weight_of b i))

all_agree : (b : ℕ) → 2 ≤ b → b ≤ 4 → T (agree b)
unfolding agree computed weight_of weights
all_agree zero h l = absurd (let z : ⊥ = omega arith in z)
all_agree (suc zero) h l = absurd (let z : ⊥ = omega arith in z)
all_agree (suc (suc zero)) h l = tt
all_agree (suc (suc (suc zero))) h l = tt
all_agree (suc (suc (suc (suc zero)))) h l = tt
all_agree (suc (suc (suc (suc (suc b))))) h l = absurd (let z : ⊥ = omega arith in z)

pub computed_weight : (b i : ℕ) → Weighed b i → computed (2 ^ b) i ≡ weight_of b i
unfolding agree
computed_weight b i w = eqb→eq _ _ (at (2 ^ b) (λ i. eqb (computed (2 ^ b) i) (weight_of b i)) (all_agree b w.least w.most) i w.within)
