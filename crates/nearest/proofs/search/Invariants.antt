-- `search` meets its contract: of the indexes that were tried, the lowest of the nearest is kept.
-- Assumes nothing.
use mathlib.Core.Path.{◌≡◌}
use Prim.Native.Nat.{ℕ, ◌-◌, ◌^◌, ◌≤◌}
use Rattle.nearest.specs.Trying.{distance_at}
use Rattle.nearest_rules.proofs.Least.{Least}
use Rattle.nearest.proofs.search.Given as goal

abbrev pub invariant-loop-i : goal.invariant-loop-i
invariant-loop-i l =
    let d : ℕ → ℕ = distance_at l.channels l.bits in
    (l.i ≤ 2 ^ l.bits) × Least l.i d l.nearest.index × (l.nearest.distance ≡ d l.nearest.index)

abbrev pub decreases-loop-i : goal.decreases-loop-i
decreases-loop-i l = 2 ^ l.bits - l.i
