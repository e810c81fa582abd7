-- `put_field` meets its contract.
-- Assumes nothing.
use borrow.Author.Tests.{eq-eqb, ne_eqb}
use Rattle.laws.proofs.Padding.{written_none}
use Rattle.text.proofs.Puts.{puts_then}
use Rattle.chart_rules.specs.Charts.{field_text}
use Rattle.chart.proofs.put_field.Goals as goal

pub returns-then-width-eq0 : goal.returns-then-width-eq0
unfolding field_text
returns-then-width-eq0 c = rw (eq-eqb _ 0 c.if-width-eq0.true) written_none

pub returns : goal.returns
unfolding field_text
returns c =
    let told = puts_then (puts_then c.put_name-named.ensures c.put_spaced-begun.ensures) c.put_spaced-told.ensures in
    rw (ne_eqb _ 0 c.if-width-eq0.false) (puts_then told c.put.ensures).text
