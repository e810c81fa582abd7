-- `stores_no_alpha` meets its contract.
-- Assumes nothing.
use Rattle.opacity.proofs.stores_no_alpha.Goals as goal

pub returns : goal.returns
returns c = rw c.mode_of.ensures
