-- All pairs of a colour and an alpha, four at a time.
-- Assumes nothing.
use mathlib.Core.List.{[]}
use Prim.Native.Nat.{◌*◌, ◌≤◌}
use Rattle.laws.proofs.Filled.{Filled}
use Rattle.bc7_unpartitioned.proofs.Crossing.{pair_at}
use Rattle.bc7_unpartitioned.proofs.palette_2_and_2.Given as goal

abbrev pub invariant-loop-j : goal.invariant-loop-j
invariant-loop-j l = (l.j ≤ 4) × Filled 16 [] (pair_at l.alpha-items l.low l.high) (4 * l.j) l.q
