-- `reader::take_group` meets its contract.
-- Assumes nothing.
use mathlib.Core.Path.{sym}
use borrow.Author.Tests.{eq-eqb, ne_eqb}
use Rattle.head_rules.specs.Reader.{group_taken}
use Rattle.sheet_head.proofs.reader.take_group.Goals as goal

pub returns-then-reader-eq2 : goal.returns-then-reader-eq2
unfolding group_taken
returns-then-reader-eq2 c = sym (rw (eq-eqb _ 2 c.if-reader-eq2.true))

pub returns : goal.returns
unfolding group_taken
returns c = rw (c.group.ensures.same, c.wide.ensures)
    (sym (rw (ne_eqb _ 2 c.if-reader-eq2.false)))
