-- `subset_indexes_3` meets its contract: the table is the list of what the strings say.
-- Assumes nothing.
use Prim.Native.String.{String}
use lib.ListN.{get_or-map}
use Rattle.bcn_format.specs.Partitions.{digits, strings3}
use Rattle.partitions.specs.Maps.{map3, map_of3}
use Rattle.partitions.proofs.subset_indexes_3.Goals as goal

pub returns : goal.returns
unfolding strings3 digits map3
returns c = get_or-map (λ (s : String). (map_of3 s).subset_indexes) strings3 c.args.id ""
