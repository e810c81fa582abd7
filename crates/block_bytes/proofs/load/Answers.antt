-- `load` meets its contract.
-- Assumes nothing.
use mathlib.Core.Path.{◌∙◌}
use Rattle.block_bytes.proofs.Copied.{loaded}
use Rattle.block_bytes.proofs.load.Goals as goal

pub returns : goal.returns
returns c = c.copy_from_slice.ensures.after ∙ loaded c.args.s.now c.args.at
