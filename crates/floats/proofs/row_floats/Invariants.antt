-- `row_floats` meets its contract: the loop fills the row from its first float to its last.
-- Assumes nothing.
use Prim.Native.Nat.{◌-◌, ◌≤◌}
use lib.Ieee.{nan}
use lib.ListN.{get_or, length}
use Rattle.laws.proofs.Filled.{Filled}
use Rattle.float_rules.specs.Floats.{channel_float}
use Rattle.floats.proofs.row_floats.Given as goal

abbrev pub invariant-loop-i : goal.invariant-loop-i
invariant-loop-i l =
    (l.i ≤ length l.pixels) × Filled (length l.pixels) nan (λ k. channel_float (get_or l.pixels k 0)) l.i l.floats

abbrev pub decreases-loop-i : goal.decreases-loop-i
decreases-loop-i l = length l.pixels - l.i
