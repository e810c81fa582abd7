-- `set_of` meets its contract.
-- Assumes nothing.
use mathlib.Core.Path.{sym, ◌∙◌}
use borrow.Author.Tests.{eq-eqb, ne_eqb}
use Rattle.pixel_rules.specs.Plain.{set_for}
use Rattle.pixel_rules.proofs.Rows.{row}
use Rattle.bc7_plain.proofs.set_of.Goals as goal

pub returns-then-column-eq0 : goal.returns-then-column-eq0
unfolding set_for
returns-then-column-eq0 c =
    let s = c.before.before in
    rw (eq-eqb _ 0 (sym (row s.args.mode.number s.args.mode.in_table).rotation ∙ sym c.column.ensures.is ∙ c.if-column-eq0.true))

pub returns-then-channel-eq3 : goal.returns-then-channel-eq3
unfolding set_for
returns-then-channel-eq3 c =
    let s = c.before.before.before in
    rw (
      ne_eqb _ 0 (λ e. c.if-column-eq0.false (c.column.ensures.is ∙ (row s.args.mode.number s.args.mode.in_table).rotation ∙ e)),
      eq-eqb s.args.channel 3 c.if-channel-eq3.true,
    )

pub returns : goal.returns
unfolding set_for
returns c =
    let s = c.before.before.before in
    rw (
      ne_eqb _ 0 (λ e. c.if-column-eq0.false (c.column.ensures.is ∙ (row s.args.mode.number s.args.mode.in_table).rotation ∙ e)),
      ne_eqb s.args.channel 3 c.if-channel-eq3.false,
    )
