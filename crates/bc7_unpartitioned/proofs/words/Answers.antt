-- All colours by an index, in part, two at a turn.
-- Assumes nothing.
use Rattle.std.proofs.Common.{◌+◌, ◌*◌, arith}
use Rattle.laws.proofs.Filled.{filled_all, filled_two}
use Rattle.bc7_drawing.specs.Words.{endpoint}
use Rattle.bc7_unpartitioned.proofs.Crossing.{high_kept, in_pairs, low_kept}
use Rattle.bc7_unpartitioned.proofs.words.Goals as goal

pub loop-k-preserved : goal.loop-k-preserved
loop-k-preserved g c =
    let k = c.loop-k.k in
    let w = g.row.W in
    let e0 = endpoint c.args.e 0 0 in
    let e1 = endpoint c.args.e 0 1 in
    filled_two k c.loop-k.invariant (omega arith)
    (low_kept c.args.colour w (2 * k) (2 * k + 1) e0 e1 c.shades.ensures c.keep-x.ensures c.low_word.ensures)
    (high_kept c.args.colour w (2 * k) (2 * k + 1) e0 e1 c.shades.ensures c.keep-x.ensures c.high_word.ensures)

pub returns : goal.returns
returns g c = filled_all c.loop-k.invariant (omega (arith, in_pairs c.requires.colours))
