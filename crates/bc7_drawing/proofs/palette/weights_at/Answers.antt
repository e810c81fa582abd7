-- Two weights of eight.
-- Assumes nothing.
use Rattle.bc7_drawing.proofs.palette.Weighing.{weights_taken}
use Rattle.bc7_drawing.proofs.palette.weights_at.Goals as goal

pub returns : goal.returns
returns c = weights_taken c.args.weights c.args.i
