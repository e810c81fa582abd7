-- `tiles::row_of_slot` meets its contract.
-- Assumes nothing.
use mathlib.Core.Path.{◌∙◌}
use Rattle.tiles.proofs.Bits.{odd_bits}
use Rattle.tiles.proofs.row_of_slot.Goals as goal

pub returns : goal.returns
returns c = c.together.ensures ∙ odd_bits c.args.slot
