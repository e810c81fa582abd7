-- How large the numbers of a row are.
-- Assumes nothing.
use mathlib.Core.Path.{◌≡◌, sym, ap, ◌∙◌, subst}
use Prim.Native.Nat.{ℕ, zero, suc, ◌+◌, ◌*◌, ◌%◌, ◌^◌, ◌≤◌, ◌<◌}
use native.Mathlib.Nat.{lt_of_lt_of_le}
use native.Mathlib.Omega.{arith}
use lib.Pow.{pow_mono}
use Rattle.bc7_modes.specs.declared.ModeRow.{ModeRow}
use Rattle.bc7_format.specs.Modes.{endpoint_count, kind_of_mode, mode_row, partition_bits}
use Rattle.bc7_format.proofs.Modes.{by_vector, six_bits}
use Rattle.bc7_modes.specs.Modes.{OfMode, mode_row_of}

pub record Small (row : ModeRow) : Type 0 where
  pub split : row.partition + row.rotation + row.index_mode ≤ 6
  pub endpoints : row.endpoints ≤ 6
  pub even : row.endpoints % 2 ≡ 0
  pub colour : row.colour ≤ 8
  pub alpha : row.alpha ≤ 8
  pub colours : row.endpoints * row.colour ≤ 30
  pub alphas : row.endpoints * row.alpha ≤ 30
  pub p : row.p ≤ 6
  pub least : 2 ≤ row.first
  pub most : row.first ≤ 4
  pub second : row.second ≤ 4
  pub kind : row.kind ≤ 3

small_mode_row : (m : ℕ) → m < 8 → Small (mode_row_of m)
unfolding mode_row kind_of_mode endpoint_count
small_mode_row zero h = omega arith
small_mode_row (suc zero) h = omega arith
small_mode_row (suc (suc zero)) h = omega arith
small_mode_row (suc (suc (suc zero))) h = omega arith
small_mode_row (suc (suc (suc (suc zero)))) h = omega arith
small_mode_row (suc (suc (suc (suc (suc zero))))) h = omega arith
small_mode_row (suc (suc (suc (suc (suc (suc zero)))))) h = omega arith
small_mode_row (suc (suc (suc (suc (suc (suc (suc zero))))))) h = omega arith
small_mode_row (suc (suc (suc (suc (suc (suc (suc (suc m)))))))) h = absurd (let z : ⊥ = omega arith in z)

pub small : {row : ModeRow} → OfMode row → Small row
small o = subst Small (sym o.is) (small_mode_row o.mode o.low)

-- a vector and its scalar have two sets
pub second_bits_is : {row : ModeRow} → OfMode row → row.kind ≡ 3 → 0 < row.second
second_bits_is o k = rw o.is (let v = by_vector o.mode (sym (ap (λ (r : ModeRow). r.kind) o.is) ∙ k) in omega (arith, v.least2))

-- a partition that fits its bits
pub low_partition : (m p : ℕ) → m < 8 → p < 2 ^ partition_bits m → p < 64
low_partition m p hm h = lt_of_lt_of_le h (pow_mono (six_bits m hm))
