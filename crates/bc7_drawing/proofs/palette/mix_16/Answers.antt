-- Sixteen pixels, each mixed at its own weight.
-- Assumes nothing.
use mathlib.Core.Path.{◌≡◌, refl, ap, ◌∙◌}
use Prim.Native.Nat.{◌+◌, ◌*◌, ◌/◌, ◌^◌}
use native.Mathlib.Omega.{arith}
use Rattle.bcn_format.specs.Indexes.{part}
use Rattle.bc7_fields.specs.Painting.{between}
use Rattle.bcn_format.proofs.Weighing.{four_bits}
use Rattle.bc7_drawing.specs.Words.{endpoint}
use Rattle.bc7_drawing.proofs.palette.Keyed.{high_is, low_is}
use Rattle.bc7_drawing.proofs.palette.Weighing.{all_columns, column, index_16, next_index, two_weights}
use Rattle.bc7_drawing.proofs.palette.mix_16.Goals as goal

pub two_shades-two-requires : goal.two_shades-two-requires
two_shades-two-requires c =
    let at = c.before in
    let odd = at.before.before in
    let s = odd.before.before in
    let w = two_weights s.args.x at.loop-i.i at.loop-i-test.true odd.weights_of-even.ensures c.weights_at.ensures in
    record { weights = record { low = w.low_256; high = w.high_256 }; ends = s.requires }

pub two_shades-next-requires : goal.two_shades-next-requires
two_shades-next-requires c =
    let at = c.before.before.before.before.before in
    let odd = at.before.before in
    let s = odd.before.before in
    let w = two_weights (s.args.x / 2 ^ 4) at.loop-i.i at.loop-i-test.true odd.weights_of-odd.ensures c.weights_at-in-loop-i.ensures in
    record { weights = record { low = w.low_256; high = w.high_256 }; ends = s.requires }

pub loop-i-preserved : goal.loop-i-preserved
loop-i-preserved c =
    let y = c.before.before in
    let x = y.before.before.before.before in
    let at = x.before.before in
    let odd = at.before.before in
    let s = odd.before.before in
    let i = at.loop-i.i in
    let e = s.args.e in
    let n = s.args.x in
    let w = two_weights n i at.loop-i-test.true odd.weights_of-even.ensures x.weights_at.ensures in
    let v = two_weights (n / 2 ^ 4) i at.loop-i-test.true odd.weights_of-odd.ensures y.weights_at-in-loop-i.ensures in
    let colour = between 4 (endpoint e 0 0) (endpoint e 0 1) in
    let ninth : 2 * i + 8 + 1 ≡ 2 * i + 1 + 8 = omega arith in
    let end : 2 * (i + 1) ≡ 2 * i + 1 + 1 = omega arith in
    let even =
    column (2 * i) (2 * i + 8) (omega arith) refl at.loop-i.invariant
    (low_is 4 (part n 4 (2 * i)) (four_bits (index_16 n (2 * i))) w.low e 0 0 _ x.two_shades-two.ensures
    y.low_colour.ensures)
    (high_is 4 (part n 4 (2 * i + 8)) (four_bits (index_16 n (2 * i + 8))) w.high e 0 0 _ x.two_shades-two.ensures
    y.high_colour.ensures) in
    rw end (column (2 * i + 1) (2 * i + 9) (omega arith) (omega arith) even
    (low_is 4 (part (n / 2 ^ 4) 4 (2 * i)) (four_bits (index_16 (n / 2 ^ 4) (2 * i))) v.low e 0 0 _ y.two_shades-next.ensures
    c.low_colour-in-loop-i.ensures ∙ ap colour (next_index n (2 * i)))
    (high_is 4 (part (n / 2 ^ 4) 4 (2 * i + 8)) (four_bits (index_16 (n / 2 ^ 4) (2 * i + 8))) v.high e 0 0 _
    y.two_shades-next.ensures c.high_colour-in-loop-i.ensures ∙ ap colour (next_index n (2 * i + 8) ∙ ap (part n 4) ninth)))

pub returns : goal.returns
returns c = all_columns c.loop-i.invariant (omega arith)
