-- One endpoint of four lanes.
-- Assumes nothing.
use native.Mathlib.Omega.{arith}
use Rattle.bc7_drawing.proofs.colour.Words.{end_of_is, parts_small}
use Rattle.bc7_drawing.proofs.colour.end_of.Goals as goal

pub promote-requires : goal.promote-requires
promote-requires c =
    let s = c.before in
    record { width = s.requires.width; lanes = parts_small s.args.x _ s.args.bits (omega arith) c.parts.ensures }

pub returns : goal.returns
returns c =
    let s = c.before.before in
    let parts = c.parts.ensures in
    end_of_is s.args.bits s.args.k s.args.x s.requires.two s.requires.width.most parts c.promote.ensures
