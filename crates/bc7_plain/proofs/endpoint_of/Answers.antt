-- `endpoint_of` meets its contract.
-- Assumes nothing.
use mathlib.Core.Path.{◌≡◌, ap, ap₂, sym, subst, ◌∙◌}
use mathlib.Core.Logic.{◌≢◌}
use Prim.Native.Nat.{ℕ, ◌+◌, ◌*◌, ◌^◌, ◌<◌}
use native.Mathlib.Omega.{arith}
use borrow.Author.Tests.{eq-eqb, eqb-true}
use Rattle.bcn_format.specs.Block.{field, number}
use Rattle.bcn_format.specs.Drawing.{promoted}
use Rattle.bcn_format.proofs.Fields.{field_below, field_lt}
use Rattle.bc7_fields.specs.Fields.{p_start, value_start}
use Rattle.bc7_format.specs.Modes.{channel_bits, p_count}
use Rattle.bc7_plain.proofs.EndBytes.{bit_below, none_stored, plain_value, value_with_p}
use Rattle.pixel_rules.proofs.Rows.{row, same_flag}
use Rattle.bc7_plain.proofs.Rows.{deep, fits, p_room, value_room}
use Rattle.bc7_plain.proofs.endpoint_of.Goals as goal
use Rattle.bc7_plain.proofs.endpoint_of.Goals.{After-bit, After-bits-value, Else-column-eq0, Else-width-eq0, Then-column-eq0}

-- what is known of the width, the value and the p bit
width_is : (o : Else-width-eq0) → o.channel_bits-width.result ≡ channel_bits o.args.mode.number o.args.channel
width_is o = o.channel_bits-width.ensures.is

some : (o : Else-width-eq0) → channel_bits o.args.mode.number o.args.channel ≢ 0
some o z = o.if-width-eq0.false (width_is o ∙ z)

value_is : (b : After-bits-value) → b.bits-value.result ≡ field (number b.args.block)
    (value_start b.args.mode.number b.args.channel
    b.args.endpoint)
    (channel_bits b.args.mode.number b.args.channel)
value_is b =
    b.bits-value.ensures
    ∙ ap₂ (field (number b.args.block)) b.value_start.ensures (width_is b.before.before)

value_lt : (b : After-bits-value) → b.bits-value.result < 2 ^ b.channel_bits-width.result
value_lt b = subst (λ (v : ℕ). v < 2 ^ b.channel_bits-width.result) (sym b.bits-value.ensures) (field_lt _ _ _)

value_small : (b : After-bits-value) → b.bits-value.result < 256
value_small b =
    let o = b.before.before in
    let h = o.requires in
    subst (λ (v : ℕ). v < 256) (sym b.bits-value.ensures) (field_below _ _ _ 8 (omega (arith, width_is o, (deep _ _ o.args.mode.in_table h.channel).most)))

bit_lt : (c : After-bit) → c.bit.result < 2
bit_lt c = subst (λ (v : ℕ). v < 2) (sym c.bit.ensures) (field_lt _ _ 1)

no_p : (c : Then-column-eq0) → p_count c.args.mode.number ≡ 0
no_p c =
    let s = c.before.before.before.before.before.before.before in
    eqb-true _ 0 (sym (same_flag _ _ (row s.args.mode.number s.args.mode.in_table).none)
    ∙ eq-eqb _ 0 (sym (ap₂ (λ (x y : ℕ). x + y) c.column.ensures.is c.column-2.ensures.is) ∙ c.if-column-eq0.true))

has_p : (c : Else-column-eq0) → p_count c.args.mode.number ≢ 0
has_p c z =
    let s = c.before.before.before.before.before.before.before in
    c.if-column-eq0.false (ap₂ (λ (x y : ℕ). x + y) c.column.ensures.is c.column-2.ensures.is
    ∙ eqb-true _ 0 (same_flag _ _ (row s.args.mode.number s.args.mode.in_table).none ∙ eq-eqb _ 0 z))

pub returns-then-width-eq0 : goal.returns-then-width-eq0
returns-then-width-eq0 c =
    let s = c.before.before in
    record { is = none_stored _ _ s.args.endpoint _ (sym c.channel_bits-width.ensures.is ∙ c.if-width-eq0.true); small = omega arith }

pub bits-value-requires : goal.bits-value-requires
bits-value-requires c =
    let s = c.before.before.before in
    let h = s.requires in
    record {
      inside =
          omega (
            arith,
            c.value_start.ensures,
            width_is c.before,
            value_room s.args.mode.number s.args.channel s.args.endpoint s.args.mode.in_table h.channel h.endpoint,
          );
      short = omega (arith, width_is c.before, (deep s.args.mode.number s.args.channel s.args.mode.in_table h.channel).most);
    }

pub promotion-requires : goal.promotion-requires
promotion-requires c =
    let b = c.before.before.before in
    let o = b.before.before in
    let h = o.requires in
    let d = deep _ _ o.args.mode.in_table h.channel in
    record { least = omega (arith, width_is o, d.least (some o)); most = omega (arith, width_is o, d.most); within = value_lt b }

pub returns-then-column-eq0 : goal.returns-then-column-eq0
returns-then-column-eq0 c =
    let b = c.before.before.before.before in
    let o = b.before.before in
    let s = o.before.before in
    let e = c.promotion.ensures.is ∙ ap₂ promoted (width_is o) (value_is b)
    ∙ plain_value s.args.mode.number (number s.args.block) s.args.endpoint s.args.channel (some o) (no_p c.before) in
    record { is = e; small = c.promotion.ensures.small }

pub overflow_mul-value : goal.overflow_mul-value
overflow_mul-value c = omega (arith, value_small c.before.before.before)

pub p_start-requires : goal.p_start-requires
p_start-requires c =
    let s = c.before.before.before.before.before.before.before in
    omega (arith, s.requires.endpoint, (fits s.args.mode.number s.args.mode.in_table).ends)

pub bit-requires : goal.bit-requires
bit-requires c =
    let s = c.before.before.before.before.before.before.before.before in
    omega (
      arith,
      c.p_start.ensures,
      p_room s.args.mode.number s.args.endpoint s.args.mode.in_table (omega (arith, s.requires.endpoint, (fits s.args.mode.number s.args.mode.in_table).ends)),
    )

pub overflow_add-value : goal.overflow_add-value
overflow_add-value c = omega (arith, value_small c.before.before.before.before.before, bit_lt c)

pub promotion-requires-2 : goal.promotion-requires-2
promotion-requires-2 c =
    let b = c.before.before.before.before.before in
    let o = b.before.before in
    let h = o.requires in
    let d = deep _ _ o.args.mode.in_table h.channel in
    record {
      least = omega (arith, width_is o, d.least (some o));
      most = omega (arith, width_is o, d.with_p_holds (some o) (has_p c.before.before));
      within = bit_below _ _ _ (value_lt b) (bit_lt c);
    }

pub returns : goal.returns
returns c =
    let b = c.before.before.before.before.before.before in
    let o = b.before.before in
    let s = o.before.before in
    let n : ℕ = number s.args.block in
    let p_is : c.bit.result ≡ field n (p_start s.args.mode.number s.args.endpoint) 1 =
    c.bit.ensures ∙ ap (λ (x : ℕ). field n x 1) c.p_start.ensures in
    let e = c.promotion-2.ensures.is
    ∙ ap₂ promoted (ap (λ (w : ℕ). w + 1) (width_is o)) (ap₂ (λ (v p : ℕ). v * 2 + p) (value_is b) p_is)
    ∙ value_with_p s.args.mode.number n s.args.endpoint s.args.channel (some o) (has_p c.before.before.before) in
    record { is = e; small = c.promotion-2.ensures.small }
