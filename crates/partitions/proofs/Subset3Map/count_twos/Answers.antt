-- `Subset3Map::count_twos` meets its contract.
-- Assumes nothing.
use borrow.Author.Rules.{rules}
use Rattle.partitions.proofs.Counts.{word3}
use Rattle.partitions.proofs.Subset3Map.count_twos.Goals as goal

pub returns : goal.returns
returns c = (word3 c.args.self.subset_indexes (search rules) c.requires).high
