-- `count_blocks` meets its contract.
-- Assumes nothing.
use mathlib.Core.Path.{◌∙◌}
use native.Mathlib.Omega.{arith}
use Rattle.counts.proofs.Counting.{none_counted}
use Rattle.counts.proofs.count_blocks.Goals as goal

pub loop-b-init : goal.loop-b-init
loop-b-init c = (omega arith, c.no_counts-counts.ensures ∙ none_counted _ _)
