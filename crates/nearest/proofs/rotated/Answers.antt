-- `rotated` meets its contract.
-- Assumes nothing.
use mathlib.Core.Path.{sym, ◌∙◌}
use borrow.Author.Tests.{eq-eqb, ne_eqb}
use Rattle.bc7_format.specs.Lines.{rotated}
use Rattle.nearest.proofs.Numbers.{rotated_by}
use Rattle.nearest.proofs.rotated.Goals as goal

pub returns-then-rotation-eq0 : goal.returns-then-rotation-eq0
unfolding rotated
returns-then-rotation-eq0 c = sym (rw c.if-rotation-eq0.true)

pub returns-then-channel-eq3 : goal.returns-then-channel-eq3
returns-then-channel-eq3 c = sym (rotated_by _ _ c.if-rotation-eq0.false ∙ rw (eq-eqb _ _ c.if-channel-eq3.true))

pub returns-then-channel-exchanged : goal.returns-then-channel-exchanged
returns-then-channel-exchanged c = sym (rotated_by _ _ c.if-rotation-eq0.false ∙ rw (ne_eqb _ _ c.if-channel-eq3.false, eq-eqb _ _ c.if-channel-exchanged.true))

pub returns : goal.returns
returns c = sym (rotated_by _ _ c.if-rotation-eq0.false ∙ rw (ne_eqb _ _ c.if-channel-eq3.false, ne_eqb _ _ c.if-channel-exchanged.false))
