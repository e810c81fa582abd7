-- `pixel_floats` meets its contract.
-- Assumes nothing.
use Rattle.floats.proofs.pixel_floats.Goals as goal

pub returns : goal.returns
returns c = cc
