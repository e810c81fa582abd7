-- `search` meets its contract: of the indexes that were tried, the lowest of the nearest is kept.
-- Assumes nothing.
use mathlib.Core.Path.{◌≡◌}
use Prim.Native.Nat.{◌^◌}
use native.Mathlib.Omega.{arith}
use lib.Pow.{pow_pos}
use Rattle.nearest_rules.proofs.Least.{least_at_is, least_one_alone}
use Rattle.bcn_format.proofs.Weighing.{counted}
use Rattle.nearest.proofs.search.Goals as goal

pub returns : goal.returns
returns c =
    let b = c.args.bits in
    let many = counted b c.requires.least c.requires.most in
    let all : c.loop-i.i ≡ 2 ^ b = omega (arith, many.is, c.loop-i.invariant.0, c.loop-i-test.false) in
    record {
      index = least_one_alone (rw all at c.loop-i.invariant.1) (least_at_is _ _ (pow_pos b));
      distance = c.loop-i.invariant.2;
    }
