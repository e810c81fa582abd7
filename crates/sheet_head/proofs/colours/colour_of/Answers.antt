-- `colours::colour_of` meets its contract.
-- Assumes nothing.
use mathlib.Core.Path.{sym}
use borrow.Author.Tests.{eq-eqb, ne_eqb}
use Rattle.head_rules.specs.Colours.{colour_of}
use Rattle.sheet_head.proofs.colours.colour_of.Goals as goal

pub returns-then-number-eq-SRGB : goal.returns-then-number-eq-SRGB
unfolding colour_of
returns-then-number-eq-SRGB c = sym (rw (eq-eqb _ 2 c.if-number-eq-SRGB.true))

pub returns-then-number-eq-LINEAR : goal.returns-then-number-eq-LINEAR
unfolding colour_of
returns-then-number-eq-LINEAR c = sym (rw (ne_eqb _ 2 c.if-number-eq-SRGB.false, eq-eqb _ 1 c.if-number-eq-LINEAR.true))

pub returns : goal.returns
unfolding colour_of
returns c = sym (rw (ne_eqb _ 2 c.if-number-eq-SRGB.false, ne_eqb _ 1 c.if-number-eq-LINEAR.false))
