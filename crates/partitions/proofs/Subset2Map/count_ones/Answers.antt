-- `Subset2Map::count_ones` meets its contract.
-- Assumes nothing.
use borrow.Author.Rules.{rules}
use Rattle.partitions.proofs.Counts.{word2}
use Rattle.partitions.proofs.Subset2Map.count_ones.Goals as goal

pub returns : goal.returns
returns c = (word2 c.args.self.subset_indexes (search rules)).set
