-- `geometry::blocks_of` meets its contract.
-- Assumes nothing.
use mathlib.Core.Path.{ap₂}
use Prim.Native.Nat.{ℕ, ◌*◌}
use native.Mathlib.Omega.{arith}
use Rattle.head_rules.specs.Geometry.{blocks_of}
use Rattle.head_rules.proofs.Blocks.{few_blocks}
use Rattle.sheet_head.proofs.geometry.blocks_of.Goals as goal

pub returns : goal.returns
unfolding blocks_of
returns c = let e = ap₂ (λ (x y : ℕ). x * y) c.blocks_across.ensures c.blocks_across-2.ensures in
    record { same = e; few = omega (arith, e, few_blocks c.requires) }
