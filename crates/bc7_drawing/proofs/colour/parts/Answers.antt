-- Some bits of each lane.
-- Assumes nothing.
use native.Mathlib.Omega.{arith}
use Rattle.laws.proofs.Words.{one_shl}
use Rattle.bc7_drawing.proofs.colour.Words.{and_parts}
use Rattle.bc7_drawing.proofs.colour.parts.Goals as goal

pub returns : goal.returns
returns c = rw (one_shl c.args.bits (omega arith)) (and_parts c.args.x c.args.at c.args.bits c.requires)
