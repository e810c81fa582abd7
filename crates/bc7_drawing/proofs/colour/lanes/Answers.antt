-- Four values in one word.
-- Assumes nothing.
use native.Mathlib.Omega.{arith}
use Rattle.bc7_drawing.specs.Words.{laned}
use Rattle.bc7_drawing.proofs.colour.lanes.Goals as goal

pub returns : goal.returns
unfolding laned
returns c = omega arith
