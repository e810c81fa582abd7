-- `passes` meets its contract.
-- Assumes nothing.
use Rattle.opacity.proofs.Passing.{beyond_passes, by_the_row, full_passes}
use Rattle.opacity.proofs.passes.Goals as goal

pub returns-then-alpha-eq255 : goal.returns-then-alpha-eq255
returns-then-alpha-eq255 c = full_passes _ _ _ _ c.if-alpha-eq255.true

pub returns-then-columns-q : goal.returns-then-columns-q
returns-then-columns-q c = beyond_passes _ _ _ _ c.if-columns-q.true

pub returns : goal.returns
returns c = by_the_row _ _ _ _ c.if-alpha-eq255.false c.if-columns-q.false
