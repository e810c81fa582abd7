-- `anchors_before` meets its contract.
-- Assumes nothing.
use mathlib.Core.Path.{◌≡◌}
use Prim.Native.Nat.{suc, ◌+◌, ◌-◌, ◌≤◌}
use lib.ListN.{take}
use Rattle.bcn_format.specs.Partitions.{how_many}
use Rattle.bc7_plain.proofs.strings.anchors_before.Given as goal

abbrev pub invariant-loop-k : goal.invariant-loop-k
invariant-loop-k l = (l.k ≤ l.end) × (l.found ≤ l.k + 1) × (l.found ≡ suc (how_many 45 (take l.k l.string)))

abbrev pub decreases-loop-k : goal.decreases-loop-k
decreases-loop-k l = l.end - l.k
