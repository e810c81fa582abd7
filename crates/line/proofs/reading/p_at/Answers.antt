-- `reading::p_at` meets its contract.
-- Assumes nothing.
use borrow.Author.Tests.{eq-eqb, ne_eqb}
use Rattle.line.specs.Reading.{ps_at}
use Rattle.line.proofs.reading.p_at.Goals as goal

pub returns-then-mode-eq1 : goal.returns-then-mode-eq1
unfolding ps_at
returns-then-mode-eq1 c = rw (eq-eqb _ 1 c.if-mode-eq1.true, c.two_at-one.ensures)

pub returns : goal.returns
unfolding ps_at
returns c = rw (ne_eqb _ 1 c.if-mode-eq1.false) c.two_at.ensures
