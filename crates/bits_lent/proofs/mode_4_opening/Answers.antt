-- `mode_4_opening`: a caller of the function above, with no walk. Assumes nothing.
use Rattle.bits_lent.proofs.Openings.{opens_block}
use Rattle.bits_lent.proofs.mode_4_opening.Goals as goal

pub returns : goal.returns
returns c = opens_block c.new.ensures _ c.read_opening_lent.ensures
