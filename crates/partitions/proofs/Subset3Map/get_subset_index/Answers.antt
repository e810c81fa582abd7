-- `Subset3Map::get_subset_index` meets its contract.
-- Assumes nothing.
use Prim.Native.Nat.{◌*◌, ◌/◌, ◌^◌}
use lib.Bits.{and_mask}
use Rattle.bcn_format.specs.Block.{field}
use Rattle.partitions.proofs.Subset3Map.get_subset_index.Goals as goal

pub returns : goal.returns
unfolding field
returns c = and_mask (c.args.self.subset_indexes / 2 ^ (2 * c.args.pixel_index)) 2
