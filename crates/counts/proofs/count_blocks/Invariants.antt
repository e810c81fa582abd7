-- `count_blocks` meets its contract.
-- Assumes nothing.
use mathlib.Core.Path.{◌≡◌}
use Prim.Native.Nat.{◌-◌, ◌≤◌}
use Rattle.head_rules.specs.Answers.{known}
use Rattle.count_rules.specs.Counts.{counts_below}
use Rattle.counts.proofs.count_blocks.Given as goal

abbrev pub invariant-loop-b : goal.invariant-loop-b
invariant-loop-b l = (l.b ≤ l.blocks) × (l.counts ≡ counts_below (known l.head) l.sheet l.b)

abbrev pub decreases-loop-b : goal.decreases-loop-b
decreases-loop-b l = l.blocks - l.b
