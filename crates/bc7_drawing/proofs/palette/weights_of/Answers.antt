-- The weights of eight indexes of four bits.
-- Assumes nothing.
use Rattle.bc7_drawing.proofs.palette.Weighing.{weights_are}
use Rattle.bc7_drawing.proofs.palette.weights_of.Goals as goal

pub returns : goal.returns
returns c = weights_are c.args.x
