-- The same with a p bit below each value.
-- Assumes nothing.
use mathlib.Core.Path.{◌∙◌}
use Prim.Native.Nat.{◌≤◌}
use native.Mathlib.Omega.{arith}
use borrow.Author.Rules.{rules}
use Rattle.bc7_drawing.proofs.colour.Words.{lanes_le, promoted_p, with_p_small}
use Rattle.bc7_drawing.proofs.colour.promote_p.Goals as goal
use Rattle.bc7_drawing.proofs.colour.promote_p.Goals.{Start}

-- both words leave room
value_le : (s : Start) → s.args.x ≤ 0x00FF_00FF_00FF_00FF
value_le s = lanes_le s.args.bits (omega arith) (search rules) s.requires.lanes

p_le : (s : Start) → s.args.p ≤ 0x00FF_00FF_00FF_00FF
p_le s = lanes_le 1 (omega arith) (search rules) s.requires.ps

pub overflow_mul-x : goal.overflow_mul-x
overflow_mul-x c = omega (arith, value_le c, p_le c)

pub overflow_add-x : goal.overflow_add-x
overflow_add-x c = omega (arith, value_le c, p_le c)

pub promote-requires : goal.promote-requires
promote-requires c = record {
  width = record { least = omega arith; most = omega arith };
  lanes = with_p_small c.args.bits c.args.x c.args.p (search rules) (search rules) c.requires;
}

pub returns : goal.returns
returns c =
    let s = c.before in
    c.promote.ensures ∙ promoted_p s.args.bits s.args.x s.args.p (search rules) (search rules) s.requires
