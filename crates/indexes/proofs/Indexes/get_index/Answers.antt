-- `Indexes::get_index` meets its contract.
-- Assumes nothing.
use native.Mathlib.Omega.{arith}
use native.Mathlib.Nat.{mod-lt}
use lib.Pow.{pow_pos}
use Rattle.bcn_format.specs.Block.{field}
use Rattle.laws.proofs.Words.{one_shl}
use Rattle.indexes.proofs.Indexes.get_index.Goals as goal
use Rattle.indexes.proofs.Indexes.get_index.Goals.{Start}

pub returns : goal.returns
unfolding field
returns c =
    let w = c.args.self.bits in
    let mask = one_shl w (omega arith) in
    record { same = rw mask; small = rw mask (mod-lt _ (pow_pos w)) }
