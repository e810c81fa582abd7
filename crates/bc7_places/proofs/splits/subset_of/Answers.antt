-- `splits::subset_of` meets its contract.
-- Assumes nothing.
use Rattle.bcn_format.specs.Block.{field}
use Rattle.bc7_places.specs.Splits.{subset_in}
use Rattle.bc7_places.proofs.splits.SubsetMaps.{map_shl}
use Rattle.bc7_places.proofs.splits.subset_of.Goals as goal

pub returns : goal.returns
unfolding subset_in field
returns c = rw (map_shl _ c.requires.bits)
