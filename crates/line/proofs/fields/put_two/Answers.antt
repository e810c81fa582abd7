-- `fields::put_two` meets its contract.
-- Assumes nothing.
use native.Mathlib.Omega.{arith}
use Rattle.line.proofs.fields.Halves.{pair_is, pair_lt}
use Rattle.line.proofs.fields.put_two.Goals as goal

pub put-requires : goal.put-requires
put-requires c =
    let s = c in
    record {
      width = omega (arith, s.requires.width);
      below = s.requires.below;
      room = s.requires.room;
      fits =
          rw (pair_is s.args.width s.args.a s.args.b s.requires.width s.requires.second c.wide.ensures c.wide-2.ensures)
          (pair_lt s.args.width s.args.a s.args.b s.requires.first s.requires.second);
    }
