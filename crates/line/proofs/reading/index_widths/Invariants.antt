-- `reading::index_widths` meets its contract.
-- Assumes nothing.
use Prim.Native.Nat.{◌-◌, ◌≤◌}
use Rattle.laws.specs.Tables.{pick}
use Rattle.laws.proofs.Filled.{Filled}
use Rattle.bc7_places.specs.Lines.{own_pixel}
use Rattle.line.proofs.reading.index_widths.Given as goal

abbrev pub invariant-loop-pixel : goal.invariant-loop-pixel
invariant-loop-pixel l = (l.pixel ≤ 16) × Filled 16 0 (λ q. pick (own_pixel l.pixels q) l.width 0) l.pixel l.own-items

abbrev pub decreases-loop-pixel : goal.decreases-loop-pixel
decreases-loop-pixel l = 16 - l.pixel
