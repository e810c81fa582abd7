-- `fields::put_p` meets its contract.
-- Assumes nothing.
use borrow.Author.Tests.{eq-eqb, ne_eqb}
use Rattle.line.specs.Fields.{ps_put}
use Rattle.line.proofs.fields.put_p.Goals as goal

pub returns-then-mode-eq1 : goal.returns-then-mode-eq1
unfolding ps_put
returns-then-mode-eq1 c = rw (eq-eqb _ 1 c.if-mode-eq1.true, ← c.wide.ensures) c.put.ensures

pub returns : goal.returns
unfolding ps_put
returns c = rw (ne_eqb _ 1 c.if-mode-eq1.false) c.put_two.ensures
