-- `values_end` meets its contract.
-- Assumes nothing.
use mathlib.Core.Path.{◌≡◌, ap₂, sym, subst, ◌∙◌}
use Prim.Native.Nat.{ℕ, ◌+◌, ◌*◌, ◌≤◌}
use native.Mathlib.Omega.{arith}
use Rattle.bc7_fields.specs.Fields.{lead_end}
use Rattle.bc7_format.specs.Modes.{alpha_bits, colour_bits, endpoint_count}
use Rattle.pixel_rules.proofs.Rows.{row}
use Rattle.bc7_plain.proofs.Rows.{fits, product}
use Rattle.bc7_plain.proofs.values_end.Goals as goal
use Rattle.bc7_plain.proofs.values_end.Goals.{After-column-2}

all : (c : After-column-2) → c.endpoints.result * (3 * c.column.result + c.column-2.result) ≤ 128 * 32
all c = product 128 32 c.endpoints.ensures.few (omega (arith, c.column.ensures.few, c.column-2.ensures.few))

pub overflow_mul-result-2 : goal.overflow_mul-result-2
overflow_mul-result-2 c = omega (arith, all c)

pub overflow_add-result-2 : goal.overflow_add-result-2
overflow_add-result-2 c = omega (arith, all c, c.lead_end.ensures.few)

pub returns : goal.returns
returns c =
    let s = c.before.before.before.before in
    let m : ℕ = s.args.mode.number in
    let e = row m s.args.mode.in_table in
    let total : c.lead_end.result + c.endpoints.result *
    (3 * c.column.result + c.column-2.result)
    ≡ lead_end m + endpoint_count m * (3 * colour_bits m + alpha_bits m) =
    ap₂ (λ (x y : ℕ). x + y) c.lead_end.ensures.is
    (ap₂ (λ (x y : ℕ). x * y) c.endpoints.ensures.is
    (ap₂ (λ (x y : ℕ). 3 * x + y) (c.column.ensures.is ∙ e.colour) (c.column-2.ensures.is ∙ e.alpha))) in
    record { is = total; few = subst (λ (x : ℕ). x ≤ 128) (sym total) (omega (arith, (fits m s.args.mode.in_table).values)) }
