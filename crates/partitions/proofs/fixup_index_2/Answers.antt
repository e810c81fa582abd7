-- `fixup_index_2` meets its contract: the table is the list of what the strings say.
-- Assumes nothing.
use Prim.Native.String.{String}
use lib.ListN.{get_or-map}
use Rattle.bcn_format.specs.Partitions.{marks, strings2}
use Rattle.partitions.specs.Maps.{map2, map_of2}
use Rattle.partitions.proofs.fixup_index_2.Goals as goal

pub returns : goal.returns
unfolding strings2 marks map2
returns c = get_or-map (λ (s : String). (map_of2 s).fixup_index_2) strings2 c.args.id ""
