-- The key of a pixel, in the word of the even ones or of the odd.
-- Assumes nothing.
use Rattle.std.proofs.Common.{◌%◌, eq-eqb, ne_eqb}
use Rattle.drawing.specs.Keys.{key_at}
use Rattle.bc6h.proofs.painting.key_in.Goals as goal

pub returns-then-p-eq0 : goal.returns-then-p-eq0
unfolding key_at
returns-then-p-eq0 c = (rw (eq-eqb (c.args.p % 2) 0 c.if-p-eq0.true) c.key_of.ensures.is, c.key_of.ensures.below)

pub returns-else-p-eq0 : goal.returns-else-p-eq0
unfolding key_at
returns-else-p-eq0 c = (rw (ne_eqb (c.args.p % 2) 0 c.if-p-eq0.false) c.key_of-else-p-eq0.ensures.is, c.key_of-else-p-eq0.ensures.below)
