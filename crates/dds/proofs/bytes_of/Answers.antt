-- `bytes_of` meets its contract.
-- Assumes nothing.
use native.Mathlib.Omega.{arith}
use Rattle.laws.proofs.Filled.{filled_all}
use Rattle.dds.proofs.bytes_of.Goals as goal

pub returns : goal.returns
returns c = filled_all c.loop-i.invariant (omega arith)
