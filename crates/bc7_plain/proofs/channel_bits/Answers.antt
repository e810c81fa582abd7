-- `channel_bits` meets its contract.
-- Assumes nothing.
use mathlib.Core.Path.{◌∙◌}
use native.Mathlib.Omega.{arith}
use borrow.Author.Tests.{eq-eqb, ne_eqb}
use Rattle.pixel_rules.proofs.Rows.{row}
use Rattle.bc7_plain.proofs.channel_bits.Goals as goal

pub returns-then-channel-eq3 : goal.returns-then-channel-eq3
returns-then-channel-eq3 c =
    let e = row _ c.args.mode.in_table in
    record {
      is =
          rw (eq-eqb c.args.channel 3 c.if-channel-eq3.true) (c.column.ensures.is ∙ e.alpha);
      few =
          omega (arith, c.column.ensures.few);
    }

pub returns : goal.returns
returns c =
    let e = row _ c.args.mode.in_table in
    record {
      is =
          rw (ne_eqb c.args.channel 3 c.if-channel-eq3.false) (c.column-2.ensures.is ∙ e.colour);
      few =
          omega (arith, c.column-2.ensures.few);
    }
