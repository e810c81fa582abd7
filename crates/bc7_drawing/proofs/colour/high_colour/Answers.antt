-- The four high bytes of a word.
-- Assumes nothing.
use Rattle.std.proofs.Common.{ap, drop}
use Rattle.bc7_drawing.proofs.colour.Mixing.{le_bytes}
use Rattle.bc7_drawing.proofs.colour.high_colour.Goals as goal

pub returns : goal.returns
returns c = rw c.to_le_bytes.ensures (ap (drop 4) (le_bytes c.args.x))
