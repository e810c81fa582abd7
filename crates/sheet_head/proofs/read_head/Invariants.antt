-- `read_head` meets its contract.
-- Assumes nothing.
use mathlib.Core.Path.{◌≡◌}
use Prim.Native.Nat.{◌-◌, ◌*◌, ◌≤◌}
use Rattle.head_rules.specs.Answers.{reader_known}
use Rattle.sheet_head.proofs.Behind.{behind}
use Rattle.sheet_head.proofs.read_head.Given as goal

abbrev pub invariant-loop-i : goal.invariant-loop-i
invariant-loop-i l = (l.i ≤ 4) × (l.reader.head.start ≤ 3 * l.i) × (reader_known l.reader ≡ behind l.sheet l.i)

abbrev pub decreases-loop-i : goal.decreases-loop-i
decreases-loop-i l = 4 - l.i
