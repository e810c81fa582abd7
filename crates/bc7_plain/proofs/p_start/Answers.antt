-- `p_start` meets its contract.
-- Assumes nothing.
use mathlib.Core.Path.{◌≡◌, ap₂, sym, ◌∙◌}
use mathlib.Core.Bool.{Bool, true, false}
use Prim.Native.Nat.{ℕ, ◌+◌, ◌/◌}
use borrow.Author.Tests.{eq-eqb, ne_eqb}
use lib.Dec.{eqb}
use Rattle.laws.specs.Tables.{pick}
use Rattle.bc7_fields.specs.Fields.{p_start}
use Rattle.pixel_rules.proofs.Rows.{row, same_flag}
use Rattle.bc7_plain.proofs.p_start.Goals as goal

pub returns-then-column-eq1 : goal.returns-then-column-eq1
unfolding p_start
returns-then-column-eq1 c =
    let s = c.before.before.before in
    let m : ℕ = s.args.mode.number in
    let t : eqb m 1 ≡ true =
    sym (same_flag _ _ (row m s.args.mode.in_table).shared) ∙ eq-eqb _ 1 (sym c.column.ensures.is ∙ c.if-column-eq1.true) in
    ap₂ (λ (x : ℕ) (b : Bool). x + pick b (s.args.endpoint / 2) s.args.endpoint) c.values_end.ensures.is (sym t)

pub returns : goal.returns
unfolding p_start
returns c =
    let s = c.before.before.before in
    let m : ℕ = s.args.mode.number in
    let t : eqb m 1 ≡ false =
    sym (same_flag _ _ (row m s.args.mode.in_table).shared) ∙ ne_eqb _ 1 (λ e. c.if-column-eq1.false (c.column.ensures.is ∙ e)) in
    ap₂ (λ (x : ℕ) (b : Bool). x + pick b (s.args.endpoint / 2) s.args.endpoint) c.values_end-2.ensures.is (sym t)
