-- The colours of three subsets, laid side by side, four places for each index.
-- Assumes nothing.
use Prim.Native.Nat.{◌^◌}
use Rattle.bc7_drawing.specs.Colours.{endpoints}
use Rattle.bc7_drawing.proofs.palette.Keyed.{Laid}
use Rattle.bc7_drawing.proofs.palette.palette_of_three.Given as goal

abbrev pub invariant-loop-k : goal.invariant-loop-k
invariant-loop-k g l = Laid (2 ^ g.row.W) g.row.W 4 (endpoints l.e l.f) l.k l.q
