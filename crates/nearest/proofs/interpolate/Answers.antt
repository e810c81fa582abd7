-- `interpolate` meets its contract.
-- Assumes nothing.
use mathlib.Core.Path.{refl}
use Rattle.bcn_format.specs.Drawing.{drawn}
use Rattle.bcn_format.proofs.Drawing.{drawn_lt}
use Rattle.nearest.proofs.interpolate.Goals as goal
use Rattle.nearest.proofs.interpolate.Goals.{Start}

pub returns : goal.returns
unfolding drawn
returns c = record {
  is = refl;
  low = drawn_lt c.args.first c.args.second c.args.weight c.requires.first c.requires.second c.requires.weight;
}
