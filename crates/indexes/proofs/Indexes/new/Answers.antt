-- `Indexes::new` meets its contract.
-- Assumes nothing.
use Prim.Native.Nat.{◌<◌}
use native.Mathlib.Omega.{arith}
use Rattle.indexes.proofs.Anchoring.{rising_fit}
use Rattle.indexes.proofs.Indexes.new.Given as given
use Rattle.indexes.proofs.Indexes.new.Goals as goal

-- the fix-ups are pixels behind pixel 0, so there are fewer than sixteen
few : (g : given.Over) (c : goal.Start g) → g.row.N < 16
few g c = omega (arith, rising_fit (omega arith) c.args.fixups c.requires.anchors.rising)

pub overflow_cast-take : goal.overflow_cast-take
overflow_cast-take g c = omega (arith, few g c)

pub overflow_add-take : goal.overflow_add-take
overflow_add-take g c = omega (arith, few g c)

pub overflow_sub-bits : goal.overflow_sub-bits
overflow_sub-bits g c = omega (arith, few g c, c.requires.anchors.width.least)
