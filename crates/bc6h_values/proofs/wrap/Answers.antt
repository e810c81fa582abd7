-- A wrapping sum, reduced to the base's width.
-- Assumes nothing.
use Rattle.std.proofs.Common.{◌≡◌, ℕ, ◌+◌, ◌*◌, ◌%◌, ◌^◌, ◌<◌, ◌≤◌, lt_of_lt_of_le, mod-lt, arith, pow_pos, pow_mono}
use Rattle.bc6h_format.specs.Widening.{extended, wrapped}
use Rattle.bc6h_values.proofs.Words.{one_shl, sum_32}
use Rattle.bc6h_values.proofs.wrap.Goals as goal

some_left : (w : ℕ) → w ≤ 16 → 0 < (1 * 2 ^ w) % 2 ^ 32
some_left w h = rw (one_shl w (omega arith)) (pow_pos w)

pub nonzero_rem-result : goal.nonzero_rem-result
nonzero_rem-result c = some_left _ (omega arith)

-- what is left by a power of two of sixteen bits at the most fits sixteen
fits : (x w : ℕ) → w ≤ 16 → x % ((1 * 2 ^ w) % 2 ^ 32) < 2 ^ 16
fits x w h = rw (one_shl w (omega arith)) (lt_of_lt_of_le (mod-lt x (pow_pos w)) (pow_mono h))

pub overflow_cast-result : goal.overflow_cast-result
overflow_cast-result c = record { fits = fits _ _ (omega arith) }

reduced : (w k base d : ℕ) → k ≤ w → w ≤ 16
    → (base + extended k 32 d) % 2 ^ 32 % ((1 * 2 ^ w) % 2 ^ 32) ≡ wrapped w k base d
reduced w k base d h l = rw (one_shl w (omega arith)) (sum_32 w k base d h (omega arith))

pub returns : goal.returns
returns c =
    rw c.extend-wide.ensures
    (reduced c.args.width c.args.bits c.args.base c.args.difference (omega arith) (omega arith))
