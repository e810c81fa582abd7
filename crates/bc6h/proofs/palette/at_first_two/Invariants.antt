-- Four lanes at the weight 0, and four at 4.
-- Assumes nothing.
use Rattle.std.proofs.Common.{ℕ, ◌+◌, ◌-◌, ◌/◌, ◌%◌, ◌<◌, ◌≤◌, List, get_or}
use Rattle.laws.proofs.Part.{Part}
use Rattle.bcn_format.specs.Drawing.{weight_of}
use Rattle.bc6h.specs.Lanes.{mixed_at}
use Rattle.bc6h.proofs.palette.at_first_two.Given as goal

abbrev pub lane_at : List ℕ → ℕ → ℕ
lane_at e k = mixed_at (weight_of 4 (k / 4)) (get_or e k 0) (get_or e (k + 8) 0)

abbrev pub invariant-loop-i : goal.invariant-loop-i
invariant-loop-i l = (l.i ≤ 4) × Part 8 0 (lane_at l.e) (λ k. k % 4 < l.i) l.r

abbrev pub decreases-loop-i : goal.decreases-loop-i
decreases-loop-i l = 4 - l.i
