-- `Subset3Map::count_zeros` meets its contract.
-- Assumes nothing.
use native.Mathlib.Omega.{arith}
use borrow.Author.Rules.{rules}
use Rattle.partitions.proofs.Counts.{word3}
use Rattle.partitions.proofs.Subset3Map.count_zeros.Goals as goal

pub overflow_sub-result : goal.overflow_sub-result
overflow_sub-result c = omega (arith, word3 c.args.self.subset_indexes (search rules) c.requires)

pub returns : goal.returns
returns c = omega (arith, word3 c.args.self.subset_indexes (search rules) c.requires)
