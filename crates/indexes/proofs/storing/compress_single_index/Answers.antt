-- `storing::compress_single_index` meets its contract.
-- Assumes nothing.
use Prim.Native.Nat.{◌+◌, ◌-◌, ◌*◌, ◌<◌}
use native.Mathlib.Omega.{arith}
use borrow.Author.Rules.{rules}
use Rattle.bcn_format.proofs.Expanding.{times_width}
use Rattle.indexes.proofs.Remove.{remove_machine}
use Rattle.indexes.proofs.storing.compress_single_index.Goals as goal
use Rattle.indexes.proofs.storing.compress_single_index.Goals.{Start}

-- the top bit of the last index is bit 63 at the most
below_64 : (c : Start) → c.args.index * c.args.bits + (c.args.bits - 1) < 64
below_64 c = omega (arith, times_width c.args.bits c.args.index 15 (omega arith))

pub returns : goal.returns
returns c = remove_machine c.args.word (c.args.index * c.args.bits + (c.args.bits - 1)) (below_64 c) (search rules)
