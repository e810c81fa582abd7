-- One endpoint of four lanes, with p bits.
-- Assumes nothing.
use native.Mathlib.Omega.{arith}
use Rattle.bc7_drawing.proofs.colour.Words.{end_of_p_is, parts_small}
use Rattle.bc7_drawing.proofs.colour.end_of_p.Goals as goal

pub promote_p-requires : goal.promote_p-requires
promote_p-requires c =
    let s = c.before.before in
    record {
      width = s.requires.width;
      lanes = parts_small s.args.x _ s.args.bits (omega arith) c.parts.ensures;
      ps = parts_small s.args.p _ 1 (omega arith) c.parts-2.ensures;
    }

pub returns : goal.returns
returns c =
    let s = c.before.before.before in
    end_of_p_is s.args.bits s.args.k s.args.x s.requires.two s.args.p s.requires.width.most c.parts.ensures
    c.parts-2.ensures c.promote_p.ensures
