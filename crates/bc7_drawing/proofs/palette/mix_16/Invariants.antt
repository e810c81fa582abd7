-- Sixteen pixels, each mixed at its own weight.
-- Assumes nothing.
use Prim.Native.Nat.{◌-◌, ◌*◌}
use Rattle.bcn_format.specs.Indexes.{part}
use Rattle.bc7_fields.specs.Painting.{between}
use Rattle.bc7_drawing.specs.Words.{endpoint}
use Rattle.bc7_drawing.proofs.palette.Weighing.{Columns}
use Rattle.bc7_drawing.proofs.palette.mix_16.Given as goal

abbrev pub invariant-loop-i : goal.invariant-loop-i
invariant-loop-i l = Columns (λ q. between 4 (endpoint l.e 0 0) (endpoint l.e 0 1) (part l.x 4 q)) (2 * l.i) l.output

abbrev pub decreases-loop-i : goal.decreases-loop-i
decreases-loop-i l = 4 - l.i
