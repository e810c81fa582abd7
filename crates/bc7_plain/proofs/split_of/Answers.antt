-- `split_of` meets its contract.
-- Assumes nothing.
use mathlib.Core.Path.{ap₂, ◌∙◌}
use Prim.Native.Nat.{ℕ, ◌+◌}
use native.Mathlib.Numerals.{add-one}
use Rattle.bcn_format.specs.Block.{field, number}
use Rattle.pixel_rules.proofs.Rows.{row}
use Rattle.bc7_plain.proofs.split_of.Goals as goal

pub returns : goal.returns
returns c =
    let c3 = c.before in
    let b2 = c3.before in
    let b1 = b2.before in
    let c2 = b1.before in
    let c1 = c2.before in
    let s = c1.before in
    let m : ℕ = s.args.mode.number in
    let e = row m s.args.mode.in_table in
    let f = field (number s.args.block) in
    let second = ap₂ (λ (x y : ℕ). x + y) (add-one m) (c1.column-partition_bits.ensures.is ∙ e.partition) in
    let third = ap₂ (λ (x y : ℕ). x + y) second (c2.column-rotation_bits.ensures.is ∙ e.rotation) in
    record {
      partition = b1.bits.ensures ∙ ap₂ f (add-one m) (c1.column-partition_bits.ensures.is ∙ e.partition);
      rotation = b2.bits-2.ensures ∙ ap₂ f second (c2.column-rotation_bits.ensures.is ∙ e.rotation);
      index_mode = c.bits-3.ensures ∙ ap₂ f third (c3.column.ensures.is ∙ e.index_mode);
    }
