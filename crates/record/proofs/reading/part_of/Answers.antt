-- `reading::part_of` meets its contract.
-- Assumes nothing.
use Prim.Native.Nat.{◌*◌, ◌<◌}
use native.Mathlib.Nat.{lt_of_lt_of_le, mod-lt}
use native.Mathlib.Omega.{arith}
use lib.Pow.{pow_mono, pow_pos}
use Rattle.bcn_format.specs.Block.{field}
use Rattle.bcn_format.proofs.Expanding.{times_width}
use Rattle.laws.proofs.Words.{one_shl}
use Rattle.record.proofs.reading.part_of.Goals as goal
use Rattle.record.proofs.reading.part_of.Goals.{Start}

-- the last part starts below bit 41
below_64 : (c : Start) → c.args.i * c.args.width < 64
below_64 c = omega (arith, times_width c.args.width c.args.i 5 (omega arith))

pub overflow_cast-result : goal.overflow_cast-result
overflow_cast-result c = omega arith

pub overflow_mul-result : goal.overflow_mul-result
overflow_mul-result c = omega (arith, below_64 c)

pub overflow_cast-result-2 : goal.overflow_cast-result-2
overflow_cast-result-2 c = omega (arith, below_64 c)

pub overflow_shr-result : goal.overflow_shr-result
overflow_shr-result c = omega (arith, below_64 c)

pub nonzero_rem-result : goal.nonzero_rem-result
nonzero_rem-result c = rw (one_shl c.args.width (omega arith)) (pow_pos c.args.width)

pub overflow_cast-result-4 : goal.overflow_cast-result-4
overflow_cast-result-4 c =
    let w = c.args.width in
    record { fits = rw (one_shl w (omega arith)) (lt_of_lt_of_le (mod-lt _ (pow_pos w)) (pow_mono {i = w} {j = 8} (omega arith))) }

pub returns : goal.returns
unfolding field
returns c = rw (one_shl c.args.width (omega arith))
