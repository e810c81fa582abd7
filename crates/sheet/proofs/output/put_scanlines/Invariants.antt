-- `output::put_scanlines` meets its contract.
-- Assumes nothing.
use Prim.Native.Nat.{◌-◌, ◌≤◌}
use Rattle.sheet.proofs.output.Columns.{Scanlines}
use Rattle.sheet.proofs.output.put_scanlines.Given as goal

abbrev pub invariant-loop-y : goal.invariant-loop-y
invariant-loop-y l = (l.y ≤ l.scanlines) × Scanlines l.w l.c l.px l.initial.out l.scanlines l.y l.out

abbrev pub decreases-loop-y : goal.decreases-loop-y
decreases-loop-y l = l.scanlines - l.y
