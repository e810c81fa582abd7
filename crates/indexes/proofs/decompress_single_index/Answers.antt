-- `decompress_single_index` meets its contract.
-- Assumes nothing.
use Prim.Native.Nat.{◌+◌, ◌-◌, ◌*◌}
use Rattle.bcn_format.proofs.Insert.{insert_machine}
use Rattle.indexes.proofs.decompress_single_index.Goals as goal
use Rattle.indexes.proofs.decompress_single_index.Goals.{Start}

pub returns : goal.returns
returns c = insert_machine c.args.compressed (c.args.index * c.args.bits + (c.args.bits - 1)) c.requires.room
