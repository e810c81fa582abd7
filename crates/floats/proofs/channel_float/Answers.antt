-- `channel_float` meets its contract: one division by 255.
-- Assumes nothing.
use mathlib.Core.Path.{ap}
use lib.Ieee.{binary32, div, of_int}
use lib.IntN.{pos}
use Rattle.float_rules.specs.Floats.{channel_float}
use Rattle.floats.proofs.Candidates.{divisor}
use Rattle.floats.proofs.channel_float.Goals as goal

pub returns : goal.returns
unfolding channel_float
returns c = ap (div binary32 (of_int binary32 (pos c.args.channel))) divisor
