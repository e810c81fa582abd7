-- The map of a split's subsets has the subset of each pixel.
-- Assumes nothing.
use mathlib.Core.Path.{◌≡◌}
use Prim.Native.Nat.{ℕ, zero, suc, ◌*◌, ◌%◌, ◌^◌, ◌≤◌, ◌<◌}
use native.Mathlib.Nat.{mul_comm, mul-one, zero-div}
use native.Mathlib.Omega.{arith}
use lib.Dec.{eqb, eqb→eq}
use Rattle.bc7_format.specs.declared.Split.{Split}
use Rattle.bc7_format.specs.declared.Split.TheVariants.{Whole, Two, Three, Vector}
use Rattle.laws.proofs.Tests.{at}
use Rattle.bcn_format.specs.Block.{field}
use Rattle.bc7_format.specs.Splits.{partition, subset}
use Rattle.partitions.proofs.Maps.{subset_in2, subset_in3}
use Rattle.bc7_places.specs.Splits.{subset_in, subsets_of}

pub map_bits : (s : Split) → (subsets_of s).bits ≤ 2
map_bits Whole = omega arith
map_bits (Two a) = omega arith
map_bits (Three a) = omega arith
map_bits (Vector r i) = omega arith

pub subset_is : (s : Split) (q : ℕ) → partition s < 64 → q < 16 → subset_in (subsets_of s) q ≡ subset s q
unfolding subset_in field
subset_is Whole q h hq = rw (zero-div (2 ^ (q * 1)))
subset_is (Two a) q h hq = rw (mul-one q) (subset_in2 a q h hq)
subset_is (Three a) q h hq = rw (mul_comm q 2) (subset_in3 a q h hq)
subset_is (Vector r i) q h hq = rw (zero-div (2 ^ (q * 1)))

-- a pixel's part of a map
pub in_map : (q b : ℕ) → q < 16 → b ≤ 2 → q * b < 32
in_map q zero h l = omega arith
in_map q (suc zero) h l = omega arith
in_map q (suc (suc zero)) h l = omega arith
in_map q (suc (suc (suc b))) h l = absurd (let y : ⊥ = omega arith in y)

pub map_shl : (b : ℕ) → b ≤ 2 → (1 * 2 ^ b) % 2 ^ 32 ≡ 2 ^ b
map_shl b h = eqb→eq _ _ (at 3 (λ b. eqb ((1 * 2 ^ b) % 2 ^ 32) (2 ^ b)) tt b (omega arith))
