-- `index_bits` meets its contract.
-- Assumes nothing.
use mathlib.Core.Path.{◌∙◌}
use native.Mathlib.Omega.{arith}
use borrow.Author.Tests.{eq-eqb, ne_eqb}
use Rattle.pixel_rules.proofs.Rows.{row}
use Rattle.bc7_plain.proofs.index_bits.Goals as goal

pub returns-then-set-eq0 : goal.returns-then-set-eq0
returns-then-set-eq0 c =
    let e = row _ c.args.mode.in_table in
    record {
      is =
          rw (eq-eqb c.args.set 0 c.if-set-eq0.true) (c.column.ensures.is ∙ e.first);
      few =
          omega (arith, c.column.ensures.few);
    }

pub returns : goal.returns
returns c =
    let e = row _ c.args.mode.in_table in
    record {
      is =
          rw (ne_eqb c.args.set 0 c.if-set-eq0.false) (c.column-2.ensures.is ∙ e.second);
      few =
          omega (arith, c.column-2.ensures.few);
    }
