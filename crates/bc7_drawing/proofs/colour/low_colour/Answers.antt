-- The four low bytes of a word.
-- Assumes nothing.
use Rattle.std.proofs.Common.{ap, take}
use Rattle.bc7_drawing.proofs.colour.Mixing.{le_bytes}
use Rattle.bc7_drawing.proofs.colour.low_colour.Goals as goal

pub returns : goal.returns
returns c = rw c.to_le_bytes.ensures (ap (take 4) (le_bytes c.args.x))
