-- `Subset3Map::count_ones` meets its contract.
-- Assumes nothing.
use borrow.Author.Rules.{rules}
use Rattle.partitions.proofs.Counts.{word3}
use Rattle.partitions.proofs.Subset3Map.count_ones.Goals as goal

pub returns : goal.returns
returns c = (word3 c.args.self.subset_indexes (search rules) c.requires).low
