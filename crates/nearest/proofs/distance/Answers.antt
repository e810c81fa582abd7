-- `distance` meets its contract.
-- Assumes nothing.
use Rattle.nearest.specs.Trying.{distance_at}
use Rattle.nearest.proofs.distance.Goals as goal

pub returns : goal.returns
unfolding distance_at
returns c = rw (c.far.ensures.is, c.far-2.ensures.is, c.far-3.ensures.is, c.far-4.ensures.is, c.weight_64-at.ensures.is)
