-- `first_start` meets its contract.
-- Assumes nothing.
use mathlib.Core.Path.{◌≡◌, ap₂, sym, subst, ◌∙◌}
use Prim.Native.Nat.{ℕ, ◌+◌, ◌*◌, ◌≤◌}
use native.Mathlib.Omega.{arith}
use Rattle.bc7_format.specs.Modes.{p_count}
use Rattle.pixel_rules.specs.Plain.{first_start}
use Rattle.pixel_rules.proofs.Rows.{row}
use Rattle.bc7_plain.proofs.Rows.{fits, product}
use Rattle.bc7_plain.proofs.first_start.Goals as goal
use Rattle.bc7_plain.proofs.first_start.Goals.{After-column, After-column-3}

own : (c : After-column) → c.endpoints.result * c.column.result ≤ 128 * 8
own c = product 128 8 c.endpoints.ensures.few c.column.ensures.few

shared : (c : After-column-3) → c.column-2.result * c.column-3.result ≤ 8 * 8
shared c = product 8 8 c.column-2.ensures.few c.column-3.ensures.few

pub overflow_mul-ps : goal.overflow_mul-ps
overflow_mul-ps c = omega (arith, own c)

pub overflow_mul-ps-2 : goal.overflow_mul-ps-2
overflow_mul-ps-2 c = omega (arith, shared c)

pub overflow_add-ps : goal.overflow_add-ps
overflow_add-ps c = omega (arith, own c.before.before, shared c)

pub overflow_add-result : goal.overflow_add-result
overflow_add-result c = omega (arith, own c.before.before.before, shared c.before, c.values_end.ensures.few)

pub returns : goal.returns
unfolding first_start
returns c =
    let s = c.before.before.before.before.before in
    let m : ℕ = s.args.mode.number in
    let e = row m s.args.mode.in_table in
    let ps : c.endpoints.result * c.column.result +
    c.column-2.result * c.column-3.result ≡ p_count m =
    ap₂ (λ (x y : ℕ). x + y)
    (ap₂ (λ (x y : ℕ). x * y) c.endpoints.ensures.is c.column.ensures.is)
    (ap₂ (λ (x y : ℕ). x * y) c.column-2.ensures.is c.column-3.ensures.is)
    ∙ e.ps in
    let total = ap₂ (λ (x y : ℕ). x + y) c.values_end.ensures.is ps in
    record { is = total; few = subst (λ (x : ℕ). x ≤ 128) (sym total) (omega (arith, (fits m s.args.mode.in_table).first)) }
