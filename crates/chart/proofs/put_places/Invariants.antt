-- `put_places` meets its contract.
-- Assumes nothing.
use mathlib.Core.Path.{◌≡◌}
use Prim.Native.Nat.{◌-◌}
use Rattle.bc7_format.specs.declared.Split.{Split}
use Rattle.bc7_format.specs.Places.{place_count}
use Rattle.bc7_places.specs.Splits.{anchors_of}
use Rattle.chart.specs.Asked.{SplitOfMode}
use Rattle.chart.proofs.Walk.{Walked}
use Rattle.chart.proofs.put_places.Given as goal

abbrev pub invariant-loop-number : goal.invariant-loop-number
invariant-loop-number l =
    (t : Split) → SplitOfMode l.mode t → l.anchors ≡ anchors_of t → Walked l.mode t l.initial.out l.number l.out l.at l.bit

abbrev pub decreases-loop-number : goal.decreases-loop-number
decreases-loop-number l = place_count - l.number
