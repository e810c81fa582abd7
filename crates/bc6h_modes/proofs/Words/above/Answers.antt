-- One bit more above a value.
-- Assumes nothing.
use mathlib.Core.Path.{◌≡◌, ap}
use Prim.Native.Nat.{ℕ, ◌+◌, ◌*◌, ◌%◌, ◌<◌, ◌^◌}
use native.Mathlib.Omega.{arith}
use lib.Pow.{shl_exact}
use Rattle.bcn_format.specs.Block.{field}
use Rattle.bc6h_modes.specs.Words.{whole}
use Rattle.bc6h_modes.proofs.Runs.{topped_lt}
use Rattle.bc6h_modes.proofs.Words.above.Goals as goal

-- the bit moved up
moved : (b k : ℕ) → b < 2 → k < 16 → (b * 2 ^ k) % 2 ^ 32 ≡ b * 2 ^ k
moved b k h l = shl_exact {a = b} 1 k 32 h (omega arith)

pub returns : goal.returns
returns c =
    let b : c.bits.result ≡ field (whole c.args.self) c.args.top 1 = omega (arith, c.bits.ensures.is) in
    rw (moved _ _ c.bits.ensures.small c.requires.most)
    (ap (λ (y : ℕ). c.args.x + y * 2 ^ c.args.count) b, topped_lt _ _ _ c.requires.small c.bits.ensures.small)
