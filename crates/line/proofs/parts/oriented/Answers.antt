-- `parts::oriented` meets its contract.
-- Assumes nothing.
use mathlib.Core.Path.{sym, ◌∙◌}
use borrow.Author.Tests.{eq-eqb, ne_eqb}
use Rattle.line.specs.Parts.{stored_as}
use Rattle.line.proofs.parts.oriented.Goals as goal

pub returns-then-top_of-eq0 : goal.returns-then-top_of-eq0
unfolding stored_as
returns-then-top_of-eq0 c = rw (eq-eqb _ 0 (sym c.top_of.ensures ∙ c.if-top_of-eq0.true))

pub returns : goal.returns
unfolding stored_as
returns c = rw (ne_eqb _ 0 (λ z. c.if-top_of-eq0.false (c.top_of.ensures ∙ z)))
