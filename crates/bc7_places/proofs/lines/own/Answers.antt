-- `lines::own` meets its contract.
-- Assumes nothing.
use Rattle.bc7_places.specs.Lines.{own_pixel}
use Rattle.bc7_places.proofs.lines.own.Goals as goal

pub returns : goal.returns
unfolding own_pixel
returns c = rw c.subset_of.ensures
