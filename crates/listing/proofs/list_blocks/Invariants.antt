-- `list_blocks` meets its contract.
-- Assumes nothing.
use Prim.Native.Nat.{◌+◌, ◌-◌, ◌*◌, ◌≤◌}
use Rattle.head_rules.specs.Answers.{known}
use Rattle.listing.proofs.Listed.{Texts}
use Rattle.listing.proofs.list_blocks.Given as goal

abbrev pub invariant-loop-k : goal.invariant-loop-k
invariant-loop-k l = (l.k ≤ l.count) × (l.next ≤ l.at + 40 * l.k) × Texts (known l.head) l.initial.out l.at l.from l.blocks l.k l.out l.next

abbrev pub decreases-loop-k : goal.decreases-loop-k
decreases-loop-k l = l.count - l.k
