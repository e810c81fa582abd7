-- `format_says` meets its contract.
-- Assumes nothing.
use mathlib.Core.Path.{sym}
use borrow.Author.Tests.{eq-eqb, ne_eqb}
use Rattle.dds_rules.specs.Header.{format_says}
use Rattle.dds.proofs.format_says.Goals as goal

pub returns-then-format-eq-BC7_SRGB : goal.returns-then-format-eq-BC7_SRGB
unfolding format_says
returns-then-format-eq-BC7_SRGB c = sym (rw (eq-eqb _ 99 c.if-format-eq-BC7_SRGB.true))

pub returns : goal.returns
unfolding format_says
returns c = sym (rw (ne_eqb _ 99 c.if-format-eq-BC7_SRGB.false))
