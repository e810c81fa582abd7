-- `mode_of` meets its contract.
-- Assumes nothing.
use Rattle.bcn_format.proofs.Trailing.{trailing_count}
use Rattle.bc7_format.specs.Modes.{mode_of}
use Rattle.bc7_modes.proofs.mode_of.Goals as goal

pub returns : goal.returns
unfolding mode_of
returns c = trailing_count 8 _
