-- The colours of two subsets, laid side by side.
-- Assumes nothing.
use Prim.Native.Nat.{◌^◌}
use Rattle.bc7_drawing.specs.Words.{endpoint}
use Rattle.bc7_drawing.proofs.palette.Keyed.{Laid}
use Rattle.bc7_drawing.proofs.palette.palette_of_two.Given as goal

abbrev pub invariant-loop-k : goal.invariant-loop-k
invariant-loop-k g l = Laid (2 ^ g.row.W) g.row.W 2 (endpoint l.e) l.k l.q
