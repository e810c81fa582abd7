-- How many blocks a sheet has at the most, and that it has one.
-- Assumes nothing.
use Prim.Native.Nat.{ℕ, ◌*◌, ◌<◌, ◌≤◌}
use native.Mathlib.Nat.{mul-le-mul, mul-pos}
use native.Mathlib.Omega.{arith}
use Rattle.head_rules.specs.Geometry.{across, most_blocks}
use Rattle.head_rules.specs.Heads.{Sized, limit}

pub few_blocks : {w h : ℕ} → Sized w h → across h * across w ≤ most_blocks
few_blocks z = mul-le-mul {n₂ = across limit} {m₂ = across limit} (omega (arith, z.within_high)) (omega (arith, z.within_wide))

pub some_blocks : {w h : ℕ} → Sized w h → 0 < across h * across w
some_blocks z = mul-pos (omega (arith, z.high)) (omega (arith, z.wide))
