-- A part of two colours.
-- Assumes nothing.
use Rattle.bc7_unpartitioned.proofs.Crossing.{keep_alpha, keep_colour}
use Rattle.bc7_unpartitioned.proofs.keep.Goals as goal

pub returns-then-colour : goal.returns-then-colour
returns-then-colour c = rw c.if-colour.true (keep_colour c.args.x)

pub returns : goal.returns
returns c = rw c.if-colour.false (keep_alpha c.args.x)
