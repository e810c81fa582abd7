-- Eight rows, one after the other.
-- Assumes nothing.
use Rattle.std.proofs.Common.{◌*◌, ◌/◌, ◌%◌, [], get_or}
use Rattle.laws.proofs.Filled.{Filled}
use Rattle.bc6h.proofs.palette.rows.Given as goal

abbrev pub invariant-loop-k : goal.invariant-loop-k
invariant-loop-k l = Filled 64 0 (λ j. get_or (get_or l.fn.v (j / 8) []) (j % 8) 0 / 64) (8 * l.k) l.r
