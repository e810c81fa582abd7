-- `number_at` meets its contract.
-- Assumes nothing.
use native.Mathlib.Omega.{arith}
use Rattle.dds.proofs.Headers.{four_bytes}
use Rattle.dds.proofs.number_at.Goals as goal

pub returns : goal.returns
returns c = let s = c.args in omega (arith, c.from_le_bytes.ensures, four_bytes s.s.now s.at)
