-- The weight of an index.
-- Assumes nothing.
use Rattle.std.specs.Prelude.{◌≡◌, ℕ, ◌≤◌}
use Rattle.bcn_format.specs.Drawing.{weight_of}

-- the weight of an index, of 64
pub record Weight (bits index w : ℕ) : Type 0 where
  pub is : w ≡ weight_of bits index
  pub most : w ≤ 64
