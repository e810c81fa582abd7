-- Eight rows, one after the other.
-- Assumes nothing.
use Rattle.std.proofs.Common.{arith}
use Rattle.laws.proofs.Filled.{filled_all}
use Rattle.bc6h.proofs.palette.rows.Goals as goal

pub returns : goal.returns
returns c = filled_all c.loop-k.invariant (omega arith)
