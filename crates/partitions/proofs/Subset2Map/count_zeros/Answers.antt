-- `Subset2Map::count_zeros` meets its contract.
-- Assumes nothing.
use native.Mathlib.Omega.{arith}
use borrow.Author.Rules.{rules}
use Rattle.partitions.proofs.Counts.{word2}
use Rattle.partitions.proofs.Subset2Map.count_zeros.Goals as goal

pub overflow_sub-result : goal.overflow_sub-result
overflow_sub-result c = omega (arith, word2 c.args.self.subset_indexes (search rules))

pub returns : goal.returns
returns c = omega (arith, word2 c.args.self.subset_indexes (search rules))
