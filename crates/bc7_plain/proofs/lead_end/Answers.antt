-- `lead_end` meets its contract.
-- Assumes nothing.
use mathlib.Core.Path.{◌≡◌, ap₂, sym, subst, ◌∙◌}
use Prim.Native.Nat.{ℕ, ◌+◌, ◌≤◌}
use native.Mathlib.Numerals.{add-one}
use native.Mathlib.Omega.{arith}
use Rattle.bc7_fields.specs.Fields.{lead_end}
use Rattle.pixel_rules.proofs.Rows.{row}
use Rattle.bc7_plain.proofs.Rows.{fits}
use Rattle.bc7_plain.proofs.lead_end.Goals as goal

pub returns : goal.returns
unfolding lead_end
returns c =
    let s = c.before.before.before in
    let m : ℕ = s.args.mode.number in
    let e = row m s.args.mode.in_table in
    let total : s.args.mode.number + 1 + c.column.result + c.column-2.result + c.column-3.result ≡ lead_end m =
    ap₂ (λ (x y : ℕ). x + y) (ap₂ (λ (x y : ℕ). x + y) (ap₂ (λ (x y : ℕ). x + y) (add-one m)
    (c.column.ensures.is ∙ e.partition)) (c.column-2.ensures.is ∙ e.rotation))
    (c.column-3.ensures.is ∙ e.index_mode) in
    record { is = total; few = subst (λ (x : ℕ). x ≤ 128) (sym total) (omega (arith, (fits m s.args.mode.in_table).lead)) }
