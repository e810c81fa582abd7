-- All colours of two subsets.
-- Assumes nothing.
use Rattle.std.proofs.Common.{◌+◌, ◌-◌, ◌≤◌, get_or}
use Rattle.laws.proofs.Filled.{Filled}
use Rattle.bc6h.specs.Lanes.{mixed_at, rise}
use Rattle.bc6h.proofs.palette.palette_2.Given as goal

abbrev pub invariant-loop-i : goal.invariant-loop-i
invariant-loop-i l =
    (l.i ≤ 8) × Filled 8 0 (λ k. mixed_at 0 (get_or l.e k 0) (get_or l.e (k + 8) 0)) l.i l.v0
    × Filled 8 0 (λ k. rise 1 (get_or l.e k 0) (get_or l.e (k + 8) 0)) l.i l.d1
    × Filled 8 0 (λ k. rise 9 (get_or l.e k 0) (get_or l.e (k + 8) 0)) l.i l.d9

abbrev pub decreases-loop-i : goal.decreases-loop-i
decreases-loop-i l = 8 - l.i
