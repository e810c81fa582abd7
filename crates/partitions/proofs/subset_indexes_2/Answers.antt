-- `subset_indexes_2` meets its contract: the table is the list of what the strings say.
-- Assumes nothing.
use Prim.Native.String.{String}
use lib.ListN.{get_or-map}
use Rattle.bcn_format.specs.Partitions.{digits, strings2}
use Rattle.partitions.specs.Maps.{map2, map_of2}
use Rattle.partitions.proofs.subset_indexes_2.Goals as goal

pub returns : goal.returns
unfolding strings2 digits map2
returns c = get_or-map (λ (s : String). (map_of2 s).subset_indexes) strings2 c.args.id ""
