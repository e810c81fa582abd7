-- `parts::p_fits` meets its contract.
-- Assumes nothing.
use Rattle.line.proofs.parts.Asks.{two_fits}
use Rattle.line.proofs.parts.p_fits.Goals as goal

pub returns : goal.returns
returns c = two_fits c.args.width _ _ c.above.ensures c.above-2.ensures
