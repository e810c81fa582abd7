-- A field is within its width.
-- Assumes nothing.
use Prim.Native.Nat.{ℕ, ◌≤◌, ◌<◌, ◌^◌}
use native.Mathlib.Nat.{mod-lt, lt_of_lt_of_le}
use lib.Pow.{pow_pos, pow_mono}
use Rattle.bcn_format.specs.Block.{field}

pub field_lt : (n s w : ℕ) → field n s w < 2 ^ w
unfolding field
field_lt n s w = mod-lt _ (pow_pos w)

pub field_below : (n s w k : ℕ) → w ≤ k → field n s w < 2 ^ k
field_below n s w k h = lt_of_lt_of_le (field_lt n s w) (pow_mono {i = w} {j = k} h)
