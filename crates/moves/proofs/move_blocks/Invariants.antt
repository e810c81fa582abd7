-- `move_blocks` meets its contract.
-- Assumes nothing.
use Prim.Native.Nat.{◌*◌, ◌-◌, ◌≤◌}
use Rattle.head_rules.specs.Answers.{known}
use Rattle.moves.proofs.Steps.{Moved}
use Rattle.moves.proofs.move_blocks.Given as goal

abbrev pub invariant-loop-b : goal.invariant-loop-b
invariant-loop-b l = (l.b ≤ l.rows * l.columns) × Moved l.form (known l.head) l.sheet l.b l.to

abbrev pub decreases-loop-b : goal.decreases-loop-b
decreases-loop-b l = l.rows * l.columns - l.b
