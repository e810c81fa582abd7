-- `index_of` meets its contract.
-- Assumes nothing.
use mathlib.Core.Path.{◌≡◌, ap, ap₂, sym, ◌∙◌}
use mathlib.Core.Bool.{Bool, true, false}
use mathlib.Core.List.{List}
use Prim.Native.Nat.{◌<◌, ℕ, ◌+◌, ◌-◌, ◌*◌, ◌≤◌}
use native.Mathlib.Nat.{le_of_lt}
use native.Mathlib.Omega.{arith}
use Rattle.laws.specs.Tables.{pick}
use Rattle.bcn_format.specs.Block.{field, number}
use Rattle.bc7_format.specs.Modes.{index_bits}
use Rattle.pixel_rules.specs.Plain.{index_start, index_wide, set_start}
use Rattle.pixel_rules.specs.Strings.{anchors_before, is_anchor_in}
use Rattle.bc7_plain.specs.Asked.{IndexAsked}
use Rattle.bc7_plain.proofs.Rows.{index_le, product, times}
use Rattle.bc7_plain.proofs.index_of.Goals as goal

start_is : (m : ℕ) (cs : List ℕ) (a q : ℕ) {s w n : ℕ} → s ≡ set_start m cs a → w ≡ index_bits m a → n ≡ anchors_before cs q
    → s + (q * w - n) ≡ index_start m cs a q
unfolding index_start
start_is m cs a q e f g = ap₂ (λ (x y : ℕ). x + y) e (ap₂ (λ (x y : ℕ). q * x - y) f g)

room : {m : ℕ} {cs : List ℕ} {a q : ℕ} → IndexAsked m cs a q → index_start m cs a q + index_wide m cs a q ≤ 128
room {a = a} {q = q} r = r.spelt.room a q r.set r.pixel

narrow : {m : ℕ} {cs : List ℕ} {a q : ℕ} → m < 8 → IndexAsked m cs a q → index_bits m a ≤ 4
narrow {m = m} {a = a} h r = index_le m a h r.set

-- the width by what was found of the pixel
wide_is : (m : ℕ) (cs : List ℕ) (a q : ℕ) {r : Bool} (b : Bool) → r ≡ is_anchor_in cs q → r ≡ b
    → index_wide m cs a q ≡ pick b (index_bits m a - 1) (index_bits m a)
unfolding index_wide
wide_is m cs a q b f e = ap (λ (t : Bool). pick t (index_bits m a - 1) (index_bits m a)) (sym f ∙ e)

pub set_start-requires : goal.set_start-requires
set_start-requires c = record { spelt = c.requires.spelt; set = c.requires.set }

pub overflow_mul-start : goal.overflow_mul-start
overflow_mul-start c = omega (arith, product 16 128 (le_of_lt c.requires.pixel) c.index_bits-width.ensures.few)

pub overflow_sub-start : goal.overflow_sub-start
overflow_sub-start c =
    let s = c.requires in
    omega (
      arith,
      c.anchors_before.ensures,
      s.spelt.sixteen.fewer c.args.pixel (le_of_lt s.pixel),
      times c.args.pixel c.index_bits-width.result (omega (arith, c.index_bits-width.ensures.is, s.some)),
    )

pub overflow_add-start : goal.overflow_add-start
overflow_add-start c =
    omega (arith, product 16 128 (le_of_lt c.requires.pixel) c.index_bits-width.ensures.few, c.set_start.ensures.few)

pub bits-requires : goal.bits-requires
bits-requires c =
    let s = c.args in
    let w = wide_is s.mode.number s.string.now s.set s.pixel true c.is_anchor.ensures c.if-is_anchor.true in
    let e = start_is s.mode.number s.string.now s.set s.pixel c.set_start.ensures.is c.index_bits-width.ensures.is c.anchors_before.ensures in
    record {
      inside = omega (arith, e, w, room c.requires, c.index_bits-width.ensures.is);
      short = omega (arith, c.index_bits-width.ensures.is, narrow c.args.mode.in_table c.requires);
    }

pub returns-then-is_anchor : goal.returns-then-is_anchor
returns-then-is_anchor c =
    let s = c.args in
    let w = wide_is s.mode.number s.string.now s.set s.pixel true c.is_anchor.ensures c.if-is_anchor.true in
    let e = start_is s.mode.number s.string.now s.set s.pixel c.set_start.ensures.is c.index_bits-width.ensures.is c.anchors_before.ensures in
    c.bits.ensures ∙ ap₂ (field (number s.block)) e (ap (λ (x : ℕ). x - 1) c.index_bits-width.ensures.is ∙ sym w)

pub bits-requires-2 : goal.bits-requires-2
bits-requires-2 c =
    let s = c.args in
    let w = wide_is s.mode.number s.string.now s.set s.pixel false c.is_anchor.ensures c.if-is_anchor.false in
    let e = start_is s.mode.number s.string.now s.set s.pixel c.set_start.ensures.is c.index_bits-width.ensures.is c.anchors_before.ensures in
    record {
      inside = omega (arith, e, w, room c.requires, c.index_bits-width.ensures.is);
      short = omega (arith, c.index_bits-width.ensures.is, narrow c.args.mode.in_table c.requires);
    }

pub returns : goal.returns
returns c =
    let s = c.args in
    let w = wide_is s.mode.number s.string.now s.set s.pixel false c.is_anchor.ensures c.if-is_anchor.false in
    let e = start_is s.mode.number s.string.now s.set s.pixel c.set_start.ensures.is c.index_bits-width.ensures.is c.anchors_before.ensures in
    c.bits-2.ensures ∙ ap₂ (field (number s.block)) e (c.index_bits-width.ensures.is ∙ sym w)
