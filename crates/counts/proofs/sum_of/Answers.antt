-- `sum_of` meets its contract.
-- Assumes nothing.
use Rattle.counts.proofs.Falseness.{nine_are}
use Rattle.counts.proofs.sum_of.Goals as goal

pub returns : goal.returns
returns c = nine_are _ c.three.ensures.same c.three-2.ensures.same c.three-3.ensures.same
