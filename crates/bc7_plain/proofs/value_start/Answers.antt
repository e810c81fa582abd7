-- `value_start` meets its contract.
-- Assumes nothing.
use mathlib.Core.Path.{ap, ap₂, ◌∙◌}
use Prim.Native.Nat.{ℕ, ◌+◌, ◌*◌, ◌≤◌, ◌<◌}
use native.Mathlib.Omega.{arith}
use Rattle.bc7_fields.specs.Fields.{value_start}
use Rattle.pixel_rules.proofs.Rows.{row}
use Rattle.bc7_plain.proofs.Rows.{fits, product}
use Rattle.bc7_plain.proofs.value_start.Goals as goal
use Rattle.bc7_plain.proofs.value_start.Goals.{After-channel_bits, After-column}

-- the products are small
colours : (c : After-column) → c.column.result * c.args.channel ≤ 8 * 4
colours c =
    product 8 4 c.column.ensures.few
    (let h : c.args.channel < 4 = c.requires.channel in omega arith)

behind : (c : After-column) → c.endpoints.result * (c.column.result * c.args.channel) ≤ 128 * (8 * 4)
behind c = product 128 (8 * 4) c.endpoints.ensures.few (colours c)

last : (c : After-channel_bits) → c.channel_bits.result * c.args.endpoint ≤ 128 * 6
last c =
    let s = c.before.before.before.before in
    product 128 6 c.channel_bits.ensures.few
    (let h : s.args.endpoint < _ = s.requires.endpoint in omega (arith, (fits s.args.mode.number s.args.mode.in_table).ends))

pub overflow_mul-result : goal.overflow_mul-result
overflow_mul-result c = omega (arith, colours c)

pub overflow_mul-result-2 : goal.overflow_mul-result-2
overflow_mul-result-2 c = omega (arith, behind c)

pub overflow_add-result : goal.overflow_add-result
overflow_add-result c = omega (arith, behind c, c.lead_end.ensures.few)

pub overflow_mul-result-3 : goal.overflow_mul-result-3
overflow_mul-result-3 c = omega (arith, last c)

pub overflow_add-result-2 : goal.overflow_add-result-2
overflow_add-result-2 c = omega (arith, behind c.before, last c, c.lead_end.ensures.few)

pub returns : goal.returns
unfolding value_start
returns c =
    let s = c.before.before.before.before in
    let e = row s.args.mode.number s.args.mode.in_table in
    ap₂ (λ (x y : ℕ). x + y)
    (ap₂ (λ (x y : ℕ). x + y) c.lead_end.ensures.is
    (ap₂ (λ (x y : ℕ). x * (y * s.args.channel)) c.endpoints.ensures.is (c.column.ensures.is ∙ e.colour)))
    (ap (λ (x : ℕ). x * s.args.endpoint) c.channel_bits.ensures.is)
